-- "SLOTS_PER_PAGE 64, MAX_NEW_PAGES 2": the theorems of the page specs/Batches.antt. Assumes nothing.
use Rattle.std.specs.Prelude.{◌≡◌, refl, not, ◌&&◌, List, [], ◌∷◌, ℕ, ◌+◌, ◌≤◌, ltb}
use Rattle.std.proofs.Common.{sym, subst, arith, le-div_iff_mul-le, ltb-true, ltb-false}
use Rattle.std.proofs.Math.Option.{some}
use Rattle.std.proofs.Math.ListN.{length, length-drop}
use Rattle.model.specs.Base.{bit, occurs}
use Rattle.model.specs.State.{Sizes, Table, State, max_slots, max_batch, no_table}
use Rattle.model.specs.Storage.{pages_for}
use Rattle.model.specs.Create.{max_pages}
use Rattle.model.specs.Request.{Request.reserve}
use Rattle.model.specs.Step.{reserve_of, decide, step}
use Rattle.model.specs.WellFormed.{WellFormed, is_attached}
use Rattle.model.proofs.Tests.{bool, at_most_law}
use Rattle.model.proofs.Decided.{Any, accepts, with_room_law, carried}
use Rattle.invariant.proofs.Pages.{Sane}
use Rattle.invariant.proofs.Snapshots.{snapshot_pages}
use Rattle.promises.proofs.BatchesLemmas.{table_bound, Takes, wide_takes, scattered, scattered_well_formed}
use Rattle.promises.specs.Batches.{lacking, most_pages, NewPages, MostPages}

module _ (z : Sizes) (sane : Sane z) where
  in_table : (t : Table) → t.limit ≤ max_pages z → t.size ≤ t.limit
      → ((p : ℕ) → occurs p t.detached ≡ bit (ltb p t.size && not (is_attached t p)))
      → (n : ℕ) → n ≤ max_batch → (ps : List ℕ) → pages_for z t n ≡ some ps → length ps ≤ most_pages z
  in_table t l k d n h ps e = (le-div_iff_mul-le {k = z.page_slots} sane.page).1
      (omega (arith, sane.page, table_bound z sane (lacking z) (omega arith) t l k d n ps e))

  pub new_pages : NewPages z (most_pages z)
  new_pages s w b n h ps e = bool (ltb b s.table_count)
      (λ q. let r = w.ranges.tables b (ltb-true b s.table_count q) in
      in_table (s.tables b) r.limit.1 r.size (w.orders b).detached n h ps e)
      (λ q. let i : s.tables b ≡ no_table = w.at_rest.tables b (ltb-false b s.table_count q) in
      in_table (s.tables b) (rw i (omega arith)) (rw i (omega arith)) (w.orders b).detached n h ps e)

  -- so no reservation takes more frames
  pub reserve_takes : (s : State) → WellFormed z s → (b n : ℕ) → length s.frames ≤ length (step z s (reserve b n)).0.frames + most_pages z
  unfolding step decide reserve_of
  reserve_takes s w b n = let t : Table = s.tables b in
      carried {N = Any} {R = Any} {A = λ u a. length s.frames ≤ length u.frames + most_pages z}
      (λ u. length s.frames ≤ length u.frames + most_pages z) z s _ (omega arith) (λ m r. omega arith) (λ u a r. r) (
      with_room_law z s b n tt tt tt tt tt tt tt λ r o.
      accepts (omega (arith, length-drop (length r.pages) s.frames, new_pages s w b n (at_most_law n max_batch o.few) r.pages (snapshot_pages z t n r o.snapshot).0)))

abbrev paged : ℕ → Sizes → Sizes
paged n z = record { page_slots = n; scan_entries = z.scan_entries; scan_slots = z.scan_slots }

-- n slots in a page, one short on the last: the pages ps that are taken where every page is detached and the last one comes first are the most
settled : (n : ℕ) → 1 ≤ n → (z : Sizes) → z.page_slots ≡ n → lacking (paged n z) ≡ 1 → 5 ≤ max_pages (paged n z)
    → (ps : List ℕ) → Takes (paged n z) ps → most_pages (paged n z) ≡ length ps → MostPages z (length ps)
settled n l z e short big ps q most =
    let y : Sizes = paged n z in
    let sane : Sane y = record { page = l } in
    let same_size : y ≡ z = λ i. record { page_slots = sym e i; scan_entries = z.scan_entries; scan_slots = z.scan_slots } in
    subst (λ (x : Sizes). MostPages x (length ps)) same_size (record {
      short = short;
      enough = λ s w b k h qs t. omega (arith, most, new_pages y sane s w b k h qs t);
      least = λ m h. h (scattered y) (scattered_well_formed y sane) 0 max_batch (omega arith) ps (wide_takes y big ps q);
    })

-- document 02, 11: "slots in a page (16, 32 or 64) .. New pages needed are at most 5, 3 and 2. The last page is one slot short in each case"

pub pages_of_64 : (z : Sizes) → z.page_slots ≡ 64 → MostPages z 2
unfolding max_batch max_slots
pages_of_64 z e = settled 64 (omega arith) z e refl (omega arith) (262143 ∷ 0 ∷ []) (λ ds k limit. refl) refl

pub pages_of_32 : (z : Sizes) → z.page_slots ≡ 32 → MostPages z 3
unfolding max_batch max_slots
pages_of_32 z e = settled 32 (omega arith) z e refl (omega arith) (524287 ∷ 0 ∷ 1 ∷ []) (λ ds k limit. refl) refl

pub pages_of_16 : (z : Sizes) → z.page_slots ≡ 16 → MostPages z 5
unfolding max_batch max_slots
pages_of_16 z e = settled 16 (omega arith) z e refl (omega arith) (1048575 ∷ 0 ∷ 1 ∷ 2 ∷ 3 ∷ []) (λ ds k limit. refl) refl
