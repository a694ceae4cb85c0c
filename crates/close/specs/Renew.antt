-- A handle with other rights in its slot: the slot keeps its object and its flags, its generation advances and the page's high mark rises to it.
-- The words turn into those of the model's table. Assumes nothing.
use Rattle.std.specs.Prelude.{◌≡◌, true, false, eqb}
use Rattle.std.proofs.Math.Path.{refl, sym, ap}
use Rattle.std.proofs.Common.{◌∙◌}
use mathlib.Core.List.{List, [], ◌∷◌}
use Prim.Native.Nat.{ℕ, zero, suc, ◌/◌, ◌≤◌, ◌<◌, max}
use native.Mathlib.Omega.{arith}
use borrow.Author.Tests.{eqb-true, eqb-false, eq-eqb, ne_eqb}
use Rattle.words.specs.Pick.{bool, clash}
use Rattle.codec.specs.Codec.{generation_limit}
use Rattle.model.specs.Base.{occurs, is_some}
use Rattle.model.specs.State.{till, Handle, Slot, Slot.occupied, Table, State, is_busy, is_vacant, is_occupied}
use Rattle.model.specs.Storage.{place}
use Rattle.model.specs.Change.{with_table}
use Rattle.model.specs.Objects.{with_rights}
use Rattle.model.proofs.Tests.{and-false, put_same, put_other}
use Rattle.invariant.proofs.Pointwise.{place_alike, place_slots}
use Rattle.invariant.proofs.Pages.{till_sane, busy_there, busy_vacant, busy_same}
use Rattle.invariant.proofs.Orders.{Sound, attached_below, attached_of, place_good}
use Rattle.layout.specs.declared.Shape.{Shape}
use Rattle.layout.specs.Layout.{Mem, head, load}
use Rattle.layout.specs.Fields.{head_pages, head_first_free, entry_high, slot_tag, slot_generation, slot_next_free, slot_previous_free, slot_object, slot_rights, slot_flags, row_id}
use Rattle.layout.specs.Sizes.{page_size}
use Rattle.representation.specs.Represents.{link_of, frame_of, tagged, is_marked}
use Rattle.storage.specs.Order.{chain_frame}
use Rattle.storage.specs.Sight.{Spot, Spot.hd, Spot.pg, Spot.sl, look, Put.to_page, Put.to_slot, puts, Moves, moves, moves_then, moves_fit, moves_size, still_only, still_frame}
use Rattle.storage.specs.Slots.{frame_v, framed, Seen, see, unsee, slot_there, free_vacant}
use Rattle.storage.specs.Ops.{done, seen}
use Rattle.storage.specs.Turns.{Turns, Ready, rows_only}
use Rattle.storage.specs.Reps.{Held, ready_of, turned}

-- ---- words

-- word f of slot k
abbrev pub slot_w : List ℕ → Shape → ℕ → ℕ → ℕ → ℕ → List ℕ
slot_w ws sh b k f x = done ws sh b (to_slot (suc k) f x ∷ [])

-- page p has had the generation g
unfoldable pub high_w : List ℕ → Shape → ℕ → ℕ → ℕ → List ℕ
high_w ws sh b p g = done ws sh b (to_page (suc p) entry_high (max (seen ws sh b (pg p entry_high)) g) ∷ [])

-- slot k gets the generation g and the rights r
unfoldable pub renew_w : List ℕ → Shape → ℕ → ℕ → ℕ → ℕ → List ℕ
renew_w ws sh b k g r = high_w (slot_w (slot_w ws sh b k slot_generation g) sh b k slot_rights r) sh b (k / page_size) g

-- what the table shows after each part
abbrev slotV₁ : (Spot → ℕ) → ℕ → ℕ → ℕ → Spot → ℕ
slotV₁ v k f x = puts v (to_slot (suc k) f x ∷ [])

abbrev high_v : (Spot → ℕ) → ℕ → ℕ → Spot → ℕ
high_v v p g = puts v (to_page (suc p) entry_high (max (v (pg p entry_high)) g) ∷ [])

abbrev renew_v : (Spot → ℕ) → ℕ → ℕ → ℕ → Spot → ℕ
renew_v v k g r = high_v (slotV₁ (slotV₁ v k slot_generation g) k slot_rights r) (k / page_size) g

-- ---- the table

-- the words of an occupied slot with another generation and other rights
renewed_slot : (m : Mem) (fr t g x y w g₀ : ℕ) (h : Handle) → framed fr (tagged m t g x y w) ≡ occupied g₀ h → (n r : ℕ) → framed fr (tagged m t n x r w) ≡ occupied n (with_rights h r)
renewed_slot m zero t g x y w g₀ h e n r = clash (ap is_occupied e) refl
renewed_slot m (suc fr) zero g x y w g₀ h e n r = clash (ap is_occupied e) refl
renewed_slot m (suc fr) (suc zero) g x y w g₀ h e n r = clash (ap is_occupied e) refl
renewed_slot m (suc fr) (suc (suc zero)) g x y w g₀ h e n r = clash (ap is_occupied e) refl
renewed_slot m (suc fr) (suc (suc (suc zero))) g x y w g₀ h e n r =
    let d : ◌≡◌ {A = Handle} (record { object = x; rights = y; flags = w }) h = cc in ap (λ (q : Handle). occupied n (with_rights q r)) d
renewed_slot m (suc fr) (suc (suc (suc (suc t)))) g x y w g₀ h e n r = clash (ap is_occupied e) refl

module _ (m : Mem) (v : Spot → ℕ) (t : Table) (z : Seen m v t) (o : Sound till t t.free) (k g₀ : ℕ) (x : Handle) (was : t.slots k ≡ occupied g₀ x) (g r : ℕ) where
  busy₀ : is_busy (t.slots k) ≡ true
  busy₀ = ap is_busy was

  under : k / page_size < t.size
  under = attached_below till t t.free o (k / page_size) (attached_of till t t.free o k (busy_there (t.slots k) busy₀))

  -- a slot of the free order is another
  free_other : (i : ℕ) → 0 < occurs i t.free → suc k ≡ suc i → ⊥
  free_other i q e = let d : i ≡ k = omega arith in
      let y : is_vacant (t.slots i) ≡ false = rw d (busy_vacant (t.slots k) busy₀) in clash (free_vacant t o i q) y

  renew_others : (i f : ℕ) → (i ≡ k → ⊥) → renew_v v k g r (sl i f) ≡ v (sl i f)
  renew_others i f n = rw (ne_eqb (suc k) (suc i) (λ y. n (omega arith)), and-false (eqb f 1), and-false (eqb f 3))

  renew_seen : Seen m (renew_v v k g r) (place till t k (occupied g (with_rights x r)))
  unfolding place
  renew_seen = record {
    limit = z.limit;
    mask = z.mask;
    life = z.life;
    epoch = z.epoch;
    size = z.size;
    frame = λ p l. z.frame p l ∙ ap link_of (sym ((place_alike till t k (occupied g (with_rights x r))).frame p));
    high = λ p l. bool (eqb p (k / page_size))
        (λ e. rw (e, eqb-true p (k / page_size) e, eq-eqb (suc (k / page_size)) (suc (k / page_size)) refl, z.high (k / page_size) under))
        (λ e. rw (e, ne_eqb (suc (k / page_size)) (suc p) (λ y. eqb-false p (k / page_size) e (omega arith))) (z.high p l));
    busy = λ p l a. z.busy p l (sym (ap is_some ((place_alike till t k (occupied g (with_rights x r))).frame p)) ∙ a) ∙ sym (busy_same till till_sane t.slots k (occupied g (with_rights x r)) busy₀ refl p);
    slots = λ i. bool (eqb i k)
        (λ e. rw (e, eqb-true i k e, eq-eqb (suc k) (suc k) refl)
        (renewed_slot m (frame_v v k) (v (sl k slot_tag)) (v (sl k slot_generation)) (v (sl k slot_object)) (v (sl k slot_rights)) (v (sl k slot_flags)) g₀ x (z.slots k ∙ was) g r))
        (λ e. rw (e, ne_eqb (suc k) (suc i) (λ y. eqb-false i k e (omega arith))) (z.slots i));
    free = chain_frame (λ i. v (sl i slot_next_free)) (λ i. v (sl i slot_previous_free)) _ _ (v (hd head_first_free)) 0 t.free z.free (λ i q. (refl, rw (ne_eqb (suc k) (suc i) (free_other i q))));
    free_count = z.free_count;
    empty = rw busy₀ z.empty;
    detached = z.detached;
  }

-- ---- the words of the table

module _ (ws : List ℕ) (sh : Shape) (b : ℕ) (t : Table) (ready : Ready ws sh b t) (k g₀ : ℕ) (x : Handle) (was : t.slots k ≡ occupied g₀ x) (g r : ℕ) where
  seen₀ : Seen (load ws sh) (look (load ws sh) b) t
  seen₀ = see (load ws sh) b t ready.table

  there₀ : 0 < frame_of (load ws sh) b k
  unfolding look
  there₀ = slot_there (load ws sh) (look (load ws sh) b) t seen₀ k (busy_there (t.slots k) (ap is_busy was))

  under₀ : k / page_size < load ws sh (head b head_pages)
  under₀ = rw ready.table.size (under (load ws sh) (look (load ws sh) b) t seen₀ ready.sound k g₀ x was g r)

  -- after other stores into the table: word f of the slot
  slot_moves : (ws₁ : List ℕ) (v : Spot → ℕ) → Moves ws ws₁ sh b v → (f y : ℕ) → f < 6 → Moves ws (slot_w ws₁ sh b k f y) sh b (slotV₁ v k f y)
  slot_moves ws₁ v p f y l =
      let own : (j : ℕ) → suc k ≡ suc j → 0 < frame_of (load ws₁ sh) b j = λ j e. let q : k ≡ j = omega arith in
      rw (still_frame b (load ws sh) (load ws₁ sh) (still_only b (load ws sh) (load ws₁ sh) p.only) j, ← q) there₀ in
      moves_then ws ws₁ (slot_w ws₁ sh b k f y) sh b v (slotV₁ v k f y) p
      (moves ws₁ sh b v (λ w. to_slot (suc k) f y ∷ []) (omega (arith, p.long, ready.room)) (moves_fit ws ws₁ sh b v p ready.fit) p.shows ((l, own), tt))

  -- and the mark of its page
  high_moves : (ws₁ : List ℕ) (v : Spot → ℕ) → Moves ws ws₁ sh b v → Moves ws (high_w ws₁ sh b (k / page_size) g) sh b (high_v v (k / page_size) g)
  unfolding high_w
  high_moves ws₁ v p =
      let own : (q : ℕ) → suc (k / page_size) ≡ suc q → q < load ws₁ sh (head b head_pages) = λ q e. omega (arith, moves_size ws ws₁ sh b v p, under₀) in
      moves_then ws ws₁ _ sh b v (high_v v (k / page_size) g) p
      (moves ws₁ sh b v (λ w. to_page (suc (k / page_size)) entry_high (max (w (pg (k / page_size) entry_high)) g) ∷ []) (omega (arith, p.long, ready.room)) (moves_fit ws ws₁ sh b v p ready.fit) p.shows
      ((omega arith, omega arith, own), tt))

  renew_moves : Moves ws (renew_w ws sh b k g r) sh b (renew_v (look (load ws sh) b) k g r)
  unfolding renew_w
  renew_moves =
      let v : Spot → ℕ = look (load ws sh) b in
      let p₁ = slot_moves ws v (record { long = refl; only = λ a h. refl; shows = refl }) slot_generation g (omega arith) in
      let p₂ = slot_moves (slot_w ws sh b k slot_generation g) (slotV₁ v k slot_generation g) p₁ slot_rights r (omega arith) in
      high_moves (slot_w (slot_w ws sh b k slot_generation g) sh b k slot_rights r) (slotV₁ (slotV₁ v k slot_generation g) k slot_rights r) p₂

  -- RENEW: the table is the model's
  pub renew_turns : Turns ws (renew_w ws sh b k g r) sh b t k (λ f. renew_v (look (load ws sh) b) k g r (sl k f)) (place till t k (occupied g (with_rights x r)))
  unfolding look
  renew_turns =
      let v : Spot → ℕ = look (load ws sh) b in
      let ws' : List ℕ = renew_w ws sh b k g r in
      let p : Moves ws ws' sh b (renew_v v k g r) = renew_moves in
      let y : Seen (load ws sh) (renew_v v k g r) (place till t k (occupied g (with_rights x r))) = renew_seen (load ws sh) v t seen₀ ready.sound k g₀ x was g r in
      record {
        long = p.long;
        only = p.only;
        table = unsee (load ws sh) (load ws' sh) b (place till t k (occupied g (with_rights x r))) (λ i. rows_only b (load ws sh) (load ws' sh) p.only i row_id) (rw p.shows y);
        slot = λ f. ap (λ (w : Spot → ℕ). w (sl k f)) p.shows;
        others = λ j f n h. ap (λ (w : Spot → ℕ). w (sl j f)) p.shows ∙ renew_others (load ws sh) v t seen₀ ready.sound k g₀ x was g r j f n;
      }

-- ---- the state

-- RENEW, in the state: for any generation in range
pub renew_held : (ws : List ℕ) (sh : Shape) (s : State) → Held ws sh s → (b : ℕ) → b < s.table_count → (k g₀ : ℕ) (x : Handle) → (s.tables b).slots k ≡ occupied g₀ x
    → (g r : ℕ) → (1 ≤ g) × (g ≤ generation_limit) → Held (renew_w ws sh b k g r) sh (with_table s b (place till (s.tables b) k (occupied g (with_rights x r))))
renew_held ws sh s h b l k g₀ x was g r good =
    let t : Table = s.tables b in
    let y : Slot = occupied g (with_rights x r) in
    turned ws (renew_w ws sh b k g r) sh s h b l k _ (place till t k y) (renew_turns ws sh b t (ready_of ws sh s h b l) k g₀ x was g r) (place_alike till t k y)
    (place_good till till_sane t k y (h.placed.sound b l) (ap is_busy was) refl good)
    (λ i n. ap (λ (f : ℕ → Slot). f i) (place_slots till t k y) ∙ put_other t.slots k y i n)
    (λ e. clash (sym (ap is_marked (ap (λ (f : ℕ → Slot). f k) (place_slots till t k y) ∙ put_same t.slots k y)) ∙ e) refl)
