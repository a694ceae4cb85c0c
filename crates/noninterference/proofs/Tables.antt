-- What is done to a table is done alike to the table without the claim, and a slot marked with the claim stays as it was.
use Rattle.std.specs.Prelude.{◌≡◌, refl, Bool, true, false, List, [], ◌∷◌, ℕ, zero, suc, ◌*◌, take, drop, eqb}
use Rattle.std.proofs.Math.Path.{ap, fun_ext}
use Rattle.std.proofs.Common.{◌∙◌}
use Rattle.codec.specs.Codec.{next_generation}
use Rattle.model.specs.Base.{pick, put}
use Rattle.model.specs.State.{Sizes, Handle, Slot, Slot.absent, Slot.vacant, Slot.reserved, Slot.transfer_reserved, Slot.occupied, Table, Entry, Entry.moved, Entry.copied}
use Rattle.model.specs.State.{generation, is_busy}
use Rattle.model.specs.Storage.{with_free, advance, raised, busy_in, page_of, slots_of, on_page, empty_after, place, keep, keep_all, vacate, vacate_all, take_free, attach, attach_all, grow, detach}
use Rattle.model.specs.Step.{fill_all, restore_all}
use Rattle.noninterference.specs.Runs.{with_slots}
use Rattle.noninterference.specs.Erase.{erase_slot, erase_table}
use Rattle.model.proofs.Tests.{bool}
use Rattle.noninterference.proofs.Basics.{put_map}

module _ (t : ℕ) (es : List Entry) where
  pub gen_erase : (k : ℕ) (x : Slot) → generation (erase_slot t es k x) ≡ generation x
  gen_erase k absent = refl
  gen_erase k (vacant g) = refl
  gen_erase k (reserved g i) = refl
  gen_erase k (transfer_reserved g i) = bool (eqb i t) (λ e. rw e) (λ e. rw e)
  gen_erase k (occupied g h) = refl

  pub busy_erase : (k : ℕ) (x : Slot) → is_busy (erase_slot t es k x) ≡ is_busy x
  busy_erase k absent = refl
  busy_erase k (vacant g) = refl
  busy_erase k (reserved g i) = refl
  busy_erase k (transfer_reserved g i) = bool (eqb i t) (λ e. rw e) (λ e. rw e)
  busy_erase k (occupied g h) = refl

  busy_in_erase : (f : ℕ → Slot) (n k : ℕ) → busy_in (λ j. erase_slot t es j (f j)) k n ≡ busy_in f k n
  busy_in_erase f zero k = refl
  busy_in_erase f (suc n) k = rw (busy_erase k (f k), busy_in_erase f n (suc k))

  module _ (z : Sizes) where
    empty_erase : (was is : Bool) (p : ℕ) (f : ℕ → Slot) (e : List ℕ)
        → empty_after z was is p (λ j. erase_slot t es j (f j)) e ≡ empty_after z was is p f e
    empty_erase false false p f e = refl
    empty_erase false true p f e = refl
    empty_erase true false p f e = rw (busy_in_erase f (slots_of z p) (p * z.page_slots))
    empty_erase true true p f e = refl

    -- the empty order after new contents for a slot
    order_erase : (f : ℕ → Slot) (k : ℕ) (y : Slot) (p : ℕ) (e : List ℕ)
        → empty_after z (is_busy (erase_slot t es k (f k))) (is_busy (erase_slot t es k y)) p (put (λ j. erase_slot t es j (f j)) k (erase_slot t es k y)) e
        ≡ empty_after z (is_busy (f k)) (is_busy y) p (put f k y) e
    order_erase f k y p e =
        (λ i. empty_after z (busy_erase k (f k) i) (busy_erase k y i) p (put_map (erase_slot t es) f k y i) e)
        ∙ empty_erase (is_busy (f k)) (is_busy y) p (put f k y) e

    pub place_erase : (x : Table) (k : ℕ) (y : Slot) → place z (erase_table t es x) k (erase_slot t es k y) ≡ erase_table t es (place z x k y)
    unfolding place
    place_erase x k y = λ i. record {
      limit = x.limit;
      mask = x.mask;
      life = x.life;
      epoch = x.epoch;
      size = x.size;
      pages = put x.pages (page_of z k) (raised (x.pages (page_of z k)) (gen_erase k y i));
      slots = put_map (erase_slot t es) x.slots k y i;
      free = x.free;
      empty = order_erase x.slots k y (page_of z k) x.empty i;
      detached = x.detached;
    }

    -- contents that keep the generation; `f₀` is what `f` is without the claim
    pub keep_erase : (f f₀ : ℕ → Slot) (k : ℕ) → ((g : ℕ) → f₀ g ≡ erase_slot t es k (f g)) → (x : Table)
        → keep z f₀ (erase_table t es x) k ≡ erase_table t es (keep z f x k)
    keep_erase f f₀ k h x =
        ap (λ (g : ℕ). place z (erase_table t es x) k (f₀ g)) (gen_erase k (x.slots k))
        ∙ ap (place z (erase_table t es x) k) (h (generation (x.slots k)))
        ∙ place_erase x k (f (generation (x.slots k)))

    pub keep_all_erase : (f f₀ : ℕ → Slot) → ((k g : ℕ) → f₀ g ≡ erase_slot t es k (f g)) → (ks : List ℕ) (x : Table)
        → keep_all z f₀ ks (erase_table t es x) ≡ erase_table t es (keep_all z f ks x)
    keep_all_erase f f₀ h [] x = refl
    keep_all_erase f f₀ h (k ∷ ks) x = ap (keep_all z f₀ ks) (keep_erase f f₀ k (h k) x) ∙ keep_all_erase f f₀ h ks (keep z f x k)

    pub vacate_erase : (x : Table) (k : ℕ) → vacate z (erase_table t es x) k ≡ erase_table t es (vacate z x k)
    unfolding vacate
    vacate_erase x k =
        ap (λ (g : ℕ). let u : Table = place z (erase_table t es x) k (vacant (next_generation g)) in with_free u (k ∷ u.free)) (gen_erase k (x.slots k))
        ∙ ap (λ (u : Table). with_free u (k ∷ u.free)) (place_erase x k (vacant (next_generation (generation (x.slots k)))))

    pub vacate_all_erase : (ks : List ℕ) (x : Table) → vacate_all z ks (erase_table t es x) ≡ erase_table t es (vacate_all z ks x)
    vacate_all_erase [] x = refl
    vacate_all_erase (k ∷ ks) x = ap (vacate_all z ks) (vacate_erase x k) ∙ vacate_all_erase ks (vacate z x k)

    pub take_free_erase : (n : ℕ) (f f₀ : ℕ → Slot) → ((k g : ℕ) → f₀ g ≡ erase_slot t es k (f g)) → (x : Table)
        → take_free z n f₀ (erase_table t es x) ≡ erase_table t es (take_free z n f x)
    unfolding take_free
    take_free_erase n f f₀ h x = keep_all_erase f f₀ h (take n x.free) (with_free x (drop n x.free))

    page_erase : (p : ℕ) (y : Slot) → ((k : ℕ) → y ≡ erase_slot t es k y) → (f : ℕ → Slot)
        → ◌≡◌ {A = ℕ → Slot} (λ k. pick (on_page z p k) y (erase_slot t es k (f k))) (λ k. erase_slot t es k (pick (on_page z p k) y (f k)))
    page_erase p y h f = fun_ext (λ k. bool (on_page z p k) (λ e. rw e (h k)) (λ e. rw e))

    attach_erase : (x : Table) (p f : ℕ) → attach z (erase_table t es x) p f ≡ erase_table t es (attach z x p f)
    unfolding attach
    attach_erase x p f = λ i. let u : Table = attach z x p f in
        with_slots u (page_erase p (vacant (next_generation (x.pages p).high)) (λ k. refl) x.slots i)

    attach_all_erase : (ps fs : List ℕ) (x : Table) → attach_all z ps fs (erase_table t es x) ≡ erase_table t es (attach_all z ps fs x)
    attach_all_erase [] fs x = refl
    attach_all_erase (p ∷ ps) [] x = refl
    attach_all_erase (p ∷ ps) (f ∷ fs) x = ap (attach_all z ps fs) (attach_erase x p f) ∙ attach_all_erase ps fs (attach z x p f)

    pub grow_erase : (ps fs : List ℕ) (x : Table) → grow z ps fs (erase_table t es x) ≡ erase_table t es (grow z ps fs x)
    grow_erase [] fs x = refl
    grow_erase (p ∷ ps) fs x = ap advance (attach_all_erase (p ∷ ps) fs x)

    pub detach_erase : (x : Table) (p : ℕ) → detach z (erase_table t es x) p ≡ erase_table t es (detach z x p)
    unfolding detach
    detach_erase x p = λ i. with_slots (detach z x p) (page_erase p absent (λ k. refl) x.slots i)

    pub fill_all_erase : (ks : List ℕ) (hs : List Handle) (x : Table) → fill_all z ks hs (erase_table t es x) ≡ erase_table t es (fill_all z ks hs x)
    fill_all_erase [] hs x = refl
    fill_all_erase (k ∷ ks) [] x = refl
    fill_all_erase (k ∷ ks) (h ∷ hs) x =
        ap (fill_all z ks hs) (keep_erase (λ g. occupied g h) (λ g. occupied g h) k (λ g. refl) x) ∙ fill_all_erase ks hs (keep z (λ g. occupied g h) x k)

    pub restore_all_erase : (xs : List Entry) (x : Table) → restore_all z xs (erase_table t es x) ≡ erase_table t es (restore_all z xs x)
    restore_all_erase [] x = refl
    restore_all_erase (moved k h r ∷ xs) x =
        ap (restore_all z xs) (keep_erase (λ g. occupied g h) (λ g. occupied g h) k (λ g. refl) x) ∙ restore_all_erase xs (keep z (λ g. occupied g h) x k)
    restore_all_erase (copied h ∷ xs) x = restore_all_erase xs x
