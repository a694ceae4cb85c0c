-- A property of what a request leaves, check by check: `N` of a refusal's number, `R` of a refusal after the id step, `A` of what is
-- accepted. What follows a check is given the equation of the test that passed.
use Rattle.std.specs.Prelude.{◌≡◌, refl, Bool, true, false, List, [], ◌∷◌, ℕ, ◌<◌, length, ltb}
use Rattle.std.proofs.Math.Option.{Option, none, some}
use Rattle.std.proofs.Common.{ltb-true}
use Rattle.model.specs.Base.{pick, at_most}
use Rattle.model.specs.State.{Sizes, Handle, Lifecycle, Lifecycle.active, Lifecycle.tearing_down, Lifecycle.retired, Table, Entry, Body}
use Rattle.model.specs.State.{Body.reservation, Body.claim, Body.parcel, Body.plan, StorageSnapshot, State, is_active, max_batch}
use Rattle.model.specs.Request.{Fault, Answer}
use Rattle.model.specs.Storage.{snapshot_for}
use Rattle.model.specs.Book.{free_row, id_left, spend_id}
use Rattle.model.specs.Decision.{Decision, Decision.refusal, Decision.refusal_after_id, Decision.accept, unless◌refuse◌then◌, given◌refuse◌then◌}
use Rattle.model.specs.Decision.{table◌of◌refuse◌then◌, as_reservation, as_claim, as_plan, refuse_after_id◌then◌, teardown_cursor◌refuse◌then◌}
use Rattle.model.specs.Lookup.{View, View.invalid, View.busy, View.holds, lookup, on_view, handle◌of◌refuse◌or_busy◌then◌, look_at}
use Rattle.model.specs.Step.{with_room, carry}

abbrev pub Leaves : (ℕ → Type 0) → (ℕ → Type 0) → (State → Answer → Type 0) → Decision → Type 0
Leaves N R A (refusal n) = N n
Leaves N R A (refusal_after_id n) = R n
Leaves N R A (accept u a) = A u a

-- the fronts that requests share: an active table, and a handle in it
abbrev pub on_active : State → ℕ → (Table → Decision) → Decision
on_active s b f = table b of s refuse 18 then λ t. unless is_active t.life refuse 16 then f t

abbrev pub on_handle : State → ℕ → ℕ → (Table → ℕ → Handle → Decision) → Decision
on_handle s b v f = on_active s b λ t. handle v of t refuse 2 or_busy 3 then f t

-- what `get_info` shows of it
abbrev pub on_looked : State → ℕ → ℕ → (Handle → Decision) → Decision
on_looked s b v f = on_active s b λ t. given look_at s t v refuse 2 then f

-- what the checks of a reservation, or of a plan, have found
pub record Room (z : Sizes) (s : State) (b n : ℕ) (w : StorageSnapshot) : Type 0 where
  pub there : b < s.table_count
  pub live : is_active (s.tables b).life ≡ true
  pub some : ltb 0 n ≡ true
  pub few : at_most n max_batch ≡ true
  pub snapshot : snapshot_for z (s.tables b) n ≡ Option.some w
  pub frames : at_most (length w.pages) (length s.frames) ≡ true
  pub row : free_row s ≡ true
  pub id : id_left s ≡ true

-- no demand on a number
abbrev pub Any : ℕ → Type 0
Any n = Unit {0}

-- a record, so that implicit arguments are found
pub record Decided (N R : ℕ → Type 0) (A : State → Answer → Type 0) (d : Decision) : Type 0 where
  pub leaves : Leaves N R A d

module _ {N R : ℕ → Type 0} {A : State → Answer → Type 0} where
  refuses : {n : ℕ} → N n → Decided N R A (refusal n)
  refuses r = record { leaves = r }

  pub accepts : {u : State} {a : Answer} → A u a → Decided N R A (accept u a)
  accepts k = record { leaves = k }

  pub checked : (b : Bool) {d : Decision} (n : ℕ) → N n → (b ≡ true → Decided N R A d) → Decided N R A (unless b refuse n then d)
  checked true n r h = h refl
  checked false n r h = refuses r

  pub with_some : {X : Type 0} (x : Option X) {f : X → Decision} (n : ℕ) → N n → ((a : X) → x ≡ some a → Decided N R A (f a))
      → Decided N R A (given x refuse n then f)
  with_some none n r h = refuses r
  with_some (some a) n r h = h a refl

  pub with_view : (v : View) {f : ℕ → Handle → Decision} → N 2 → N 3 → ((k : ℕ) (h : Handle) → v ≡ holds k h → Decided N R A (f k h))
      → Decided N R A (on_view v 2 3 f)
  with_view invalid p q h = refuses p
  with_view busy p q h = refuses q
  with_view (holds k x) p q h = h k x refl

  pub with_handle : (s : State) (b v : ℕ) {f : ℕ → Handle → Decision} → N 18 → N 16 → N 2 → N 3
      → (b < s.table_count → is_active (s.tables b).life ≡ true → (k : ℕ) (h : Handle) → lookup (s.tables b) v ≡ holds k h → Decided N R A (f k h))
      → Decided N R A (on_handle s b v (λ t. f))
  with_handle s b v o p q r c = let t : Table = s.tables b in
      checked (ltb b s.table_count) 18 o λ l. checked (is_active t.life) 16 p λ a. with_view (lookup t v) q r λ k h e.
      c (ltb-true b s.table_count l) a k h e

  -- the handle that `get_info` shows
  pub with_look : (s : State) (b v : ℕ) {f : Handle → Decision} → N 18 → N 16 → N 2
      → (b < s.table_count → is_active (s.tables b).life ≡ true → (h : Handle) → look_at s (s.tables b) v ≡ some h → Decided N R A (f h))
      → Decided N R A (on_looked s b v f)
  with_look s b v o p q c = let t : Table = s.tables b in
      checked (ltb b s.table_count) 18 o λ l. checked (is_active t.life) 16 p λ a. with_some (look_at s t v) 2 q λ h e.
      c (ltb-true b s.table_count l) a h e

  pub with_reservation : (x : Option Body) {f : ℕ → List ℕ → Decision} → N 18
      → ((b : ℕ) (ks : List ℕ) → x ≡ some (reservation b ks) → Decided N R A (f b ks)) → Decided N R A (as_reservation x 18 f)
  with_reservation none r h = refuses r
  with_reservation (some (reservation b ks)) r h = h b ks refl
  with_reservation (some (claim b es)) r h = refuses r
  with_reservation (some (parcel hs)) r h = refuses r
  with_reservation (some (plan b n w fs)) r h = refuses r

  pub with_claim : (x : Option Body) {f : ℕ → List Entry → Decision} → N 18
      → ((b : ℕ) (es : List Entry) → x ≡ some (claim b es) → Decided N R A (f b es)) → Decided N R A (as_claim x 18 f)
  with_claim none r h = refuses r
  with_claim (some (reservation b ks)) r h = refuses r
  with_claim (some (claim b es)) r h = h b es refl
  with_claim (some (parcel hs)) r h = refuses r
  with_claim (some (plan b n w fs)) r h = refuses r

  pub with_plan : (x : Option Body) {f : ℕ → ℕ → StorageSnapshot → List ℕ → Decision} → N 18
      → ((b n : ℕ) (w : StorageSnapshot) (fs : List ℕ) → x ≡ some (plan b n w fs) → Decided N R A (f b n w fs)) → Decided N R A (as_plan x 18 f)
  with_plan none r h = refuses r
  with_plan (some (reservation b ks)) r h = refuses r
  with_plan (some (claim b es)) r h = refuses r
  with_plan (some (parcel hs)) r h = refuses r
  with_plan (some (plan b n w fs)) r h = h b n w fs refl

  pub with_room_law : (z : Sizes) (s : State) (b n : ℕ) {f : StorageSnapshot → Decision} → N 18 → N 16 → N 17 → N 13 → N 15 → N 1 → N 12
      → ((w : StorageSnapshot) → Room z s b n w → Decided N R A (f w)) → Decided N R A (with_room z s b n (λ t. f))
  with_room_law z s b n p₁₈ p₁₆ p₁₇ p₁₃ p₁₅ p₁ p₁₂ h = let t : Table = s.tables b in
      checked (ltb b s.table_count) 18 p₁₈ λ there.
      checked (is_active t.life) 16 p₁₆ λ live.
      checked (ltb 0 n) 17 p₁₇ λ some.
      checked (at_most n max_batch) 13 p₁₃ λ few.
      with_some (snapshot_for z t n) 15 p₁₅ λ w snapshot.
      checked (at_most (length w.pages) (length s.frames)) 1 p₁ λ frames.
      checked (free_row s) 1 p₁ λ row.
      checked (id_left s) 12 p₁₂ λ id.
      h w (record { there = ltb-true b s.table_count there; live = live; some = some; few = few; snapshot = snapshot; frames = frames; row = row; id = id })

  pub while_tearing : (x : Lifecycle) {f : ℕ → Decision} → N 18 → ((c : ℕ) → x ≡ tearing_down c → Decided N R A (f c))
      → Decided N R A (teardown_cursor x refuse 18 then f)
  while_tearing active r h = refuses r
  while_tearing (tearing_down c) r h = h c refl
  while_tearing retired r h = refuses r

  pub after_id : (x : Option Fault) {d : Decision} → ((f : Fault) → x ≡ some f → R f.number) → (x ≡ none → Decided N R A d) → Decided N R A (refuse_after_id x then d)
  after_id none r h = h refl
  after_id (some f) r h = record { leaves = r f refl }

  pub either_way : (x : Bool) {d e : Decision} → (x ≡ true → Decided N R A d) → Decided N R A e → Decided N R A (pick x d e)
  either_way true p q = p refl
  either_way false p q = q

  -- a walk's end, or the slot found; an empty order, or its first page
  pub found_or : (f : Option ℕ → Decision) (x : Option ℕ) → Decided N R A (f none) → ((k : ℕ) → x ≡ some k → Decided N R A (f (some k)))
      → Decided N R A (f x)
  found_or f none p q = p
  found_or f (some k) p q = q k refl

  pub first_or : (f : List ℕ → Decision) (x : List ℕ) → Decided N R A (f [])
      → ((p : ℕ) (ps : List ℕ) → x ≡ p ∷ ps → Decided N R A (f (p ∷ ps))) → Decided N R A (f x)
  first_or f [] p q = p
  first_or f (k ∷ ks) p q = q k ks refl

  -- the state that a decision leaves
  pub carried : (P : State → Type 0) (z : Sizes) (s : State) (d : Decision) → P s → ((n : ℕ) → R n → P (spend_id s))
      → ((u : State) (a : Answer) → A u a → P u) → Decided N R A d → P (carry z s d).0
  carried P z s (refusal n) p q r h = p
  carried P z s (refusal_after_id n) p q r h = q n h.leaves
  carried P z s (accept u a) p q r h = r u a h.leaves
