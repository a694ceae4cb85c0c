-- The first part of the check passes exactly where its facts hold. Assumes nothing.
use Rattle.std.specs.Prelude.{◌≡◌, true, eqb, ltb, leb}
use Rattle.std.proofs.Math.Path.{refl, sym}
use Prim.Native.Nat.{ℕ, zero, suc, ◌+◌, ◌*◌, ◌/◌, ◌≤◌, ◌<◌}
use Rattle.std.proofs.Common.{arith}
use Rattle.std.proofs.Math.Nat.{suc_inj}
use borrow.Author.Tests.{eq-eqb, eqb-true, lt-ltb, ltb-true, le-leb, leb-true}
use Rattle.words.specs.Pick.{both, both_is}
use Rattle.words.specs.All.{all, all_at, all_yes}
use Rattle.model.specs.State.{till}
use Rattle.model.specs.Storage.{slots_of}
use Rattle.codec.specs.Codec.{generation_limit}
use Rattle.layout.specs.declared.Shape.{Shape}
use Rattle.layout.specs.Layout.{Mem, root, head, entry, owner, group}
use Rattle.layout.specs.Fields.{root_free_frames, head_lifecycle, head_pages, entry_frame, entry_high, entry_busy}
use Rattle.representation.specs.Represents.{entry_at}
use Rattle.structure.specs.Facts.{limits_to, free_from, busy_cells, attached_to, HeadIs, SlotIs, PageIs, Structure}
use Rattle.structure.specs.Checks.{head_b, slot_b, slots_b, frame_b, page_b, pages_b, table_b, tables_b, groups_b, levels_b, frames_b, structure_b, head_is, head_yes, slot_is, slot_yes}

-- ---- pages

-- a frame as a link: what its test says
FrameIs : Mem → Shape → ℕ → ℕ → ℕ → ℕ → Type 0
FrameIs m sh life e n f =
    (f < sh.frames) × (m (owner f) ≡ suc e) × (m (entry e entry_busy) ≡ busy_cells m f n) × ((j : ℕ) → j < n → SlotIs m sh.objects life (m (entry e entry_high)) f j)

-- a link to something below F
pub link_small : (l F : ℕ) → ((f : ℕ) → l ≡ suc f → f < F) → l ≤ F
link_small zero F h = omega arith
link_small (suc f) F h = h f refl

module _ (m : Mem) (sh : Shape) (life e n : ℕ) where
  frame_is : (l f : ℕ) → frame_b m sh life e n l ≡ true → l ≡ suc f → FrameIs m sh life e n f
  unfolding frame_b slots_b FrameIs
  frame_is zero f q z = absurd (omega arith)
  frame_is (suc g) f q z =
      let y : g ≡ f = suc_inj z in
      let t1 = both (ltb g sh.frames) _ q in let t2 = both (eqb (m (owner g)) (suc e)) _ t1.1 in
      let t3 = both (all n (slot_b m sh.objects life (m (entry e entry_high)) g)) _ t2.1 in
      rw (← y) (
        ltb-true g sh.frames t1.0,
        eqb-true (m (owner g)) (suc e) t2.0,
        sym (eqb-true (busy_cells m g n) (m (entry e entry_busy)) t3.1),
        λ j h. slot_is m sh.objects life g j (m (entry e entry_high)) (all_at n (slot_b m sh.objects life (m (entry e entry_high)) g) t3.0 j h),
      )

  frame_yes : (l : ℕ) → ((f : ℕ) → l ≡ suc f → FrameIs m sh life e n f) → frame_b m sh life e n l ≡ true
  unfolding frame_b slots_b FrameIs
  frame_yes zero h = refl
  frame_yes (suc f) h =
      let k = h f refl in
      rw (
        lt-ltb f sh.frames k.0,
        eq-eqb (m (owner f)) (suc e) k.1,
        all_yes n (slot_b m sh.objects life (m (entry e entry_high)) f) (λ j g. slot_yes m sh.objects life f j (m (entry e entry_high)) (k.3 j g)),
        eq-eqb (busy_cells m f n) (m (entry e entry_busy)) (sym k.2),
      )

  pub page_is : page_b m sh life e n ≡ true → PageIs m sh life e n
  unfolding page_b FrameIs
  page_is q =
      let t1 = both (leb 1 (m (entry e entry_high))) _ q in let t2 = both (leb (m (entry e entry_high)) generation_limit) _ t1.1 in
      let u : (f : ℕ) → m (entry e entry_frame) ≡ suc f → FrameIs m sh life e n f = λ f z. frame_is (m (entry e entry_frame)) f t2.1 z in
      record {
        some_high = leb-true 1 (m (entry e entry_high)) t1.0;
        few_high = leb-true (m (entry e entry_high)) generation_limit t2.0;
        link = link_small (m (entry e entry_frame)) sh.frames (λ f z. (u f z).0);
        named = λ f z. (u f z).1;
        busy = λ f z. (u f z).2;
        slots = λ f z. (u f z).3;
      }

  pub page_yes : PageIs m sh life e n → page_b m sh life e n ≡ true
  unfolding page_b FrameIs
  page_yes h = rw (
    le-leb 1 (m (entry e entry_high)) h.some_high,
    le-leb (m (entry e entry_high)) generation_limit h.few_high,
    frame_yes (m (entry e entry_frame)) (λ f z. (omega (arith, h.link), h.named f z, h.busy f z, h.slots f z)),
  )

pub pages_is : (m : Mem) (sh : Shape) (life e n : ℕ) → pages_b m sh life e n ≡ true → (p : ℕ) → p < n → PageIs m sh life (e + p) (slots_of till p)
unfolding pages_b
pages_is m sh life e n q p h = page_is m sh life (e + p) (slots_of till p) (all_at n (λ i. page_b m sh life (e + i) (slots_of till i)) q p h)

pub pages_yes : (m : Mem) (sh : Shape) (life e n : ℕ) → ((p : ℕ) → p < n → PageIs m sh life (e + p) (slots_of till p)) → pages_b m sh life e n ≡ true
unfolding pages_b
pages_yes m sh life e n f = all_yes n (λ i. page_b m sh life (e + i) (slots_of till i)) (λ p h. page_yes m sh life (e + p) (slots_of till p) (f p h))

-- ---- tables

pub table_is : (m : Mem) (sh : Shape) (b e : ℕ) → table_b m sh b e ≡ true
    → HeadIs m b e × ((p : ℕ) → p < m (head b head_pages) → PageIs m sh (m (head b head_lifecycle)) (entry_at m b p) (slots_of till p))
unfolding table_b
table_is m sh b e q =
    let t = both (head_b m b e) _ q in let h = head_is m b e t.0 in
    (h, λ p i. rw h.first (pages_is m sh (m (head b head_lifecycle)) e (m (head b head_pages)) t.1 p i))

pub table_yes : (m : Mem) (sh : Shape) (b e : ℕ) → HeadIs m b e → ((p : ℕ) → p < m (head b head_pages) → PageIs m sh (m (head b head_lifecycle)) (entry_at m b p) (slots_of till p))
    → table_b m sh b e ≡ true
unfolding table_b
table_yes m sh b e h f =
    both_is (head_b m b e) (pages_b m sh (m (head b head_lifecycle)) e (m (head b head_pages))) (head_yes m b e h)
    (pages_yes m sh (m (head b head_lifecycle)) e (m (head b head_pages)) (λ p i. rw h.first at (f p i)))

-- ---- groups

groups_is : (m : Mem) (F level size n : ℕ) → groups_b m F level size n ≡ true → (g : ℕ) → g < n → m (group level g) ≡ free_from m F (g * size) size
unfolding groups_b
groups_is m F level size n q g h =
    eqb-true (m (group level g)) (free_from m F (g * size) size) (all_at n (λ i. eqb (m (group level i)) (free_from m F (i * size) size)) q g h)

groups_yes : (m : Mem) (F level size n : ℕ) → ((g : ℕ) → g < n → m (group level g) ≡ free_from m F (g * size) size) → groups_b m F level size n ≡ true
unfolding groups_b
groups_yes m F level size n f =
    all_yes n (λ i. eqb (m (group level i)) (free_from m F (i * size) size)) (λ g h. eq-eqb (m (group level g)) (free_from m F (g * size) size) (f g h))

-- ---- THE WHOLE

pub structure_sound : (sh : Shape) (m : Mem) (held : ℕ) → structure_b m sh held ≡ true → Structure sh m held
unfolding structure_b tables_b frames_b levels_b
structure_sound sh m held q =
    let t = both (tables_b m sh) _ q in
    let u = both (all sh.tables (λ b. table_b m sh b (limits_to m b))) _ t.0 in
    let a : (b : ℕ) → b < sh.tables → HeadIs m b (limits_to m b) × ((p : ℕ) → p < m (head b head_pages) → PageIs m sh (m (head b head_lifecycle)) (entry_at m b p) (slots_of till p)) = λ b h.
    table_is m sh b (limits_to m b) (all_at sh.tables (λ c. table_b m sh c (limits_to m c)) u.0 b h) in
    let v = both (eqb (attached_to m sh.tables + held + free_from m sh.frames 0 sh.frames) sh.frames) _ t.1 in
    let w = both (eqb (m (root root_free_frames)) (free_from m sh.frames 0 sh.frames)) _ v.1 in
    let x = both (groups_b m sh.frames 0 16 ((sh.frames + 15) / 16)) _ w.1 in
    let y = both (groups_b m sh.frames 1 256 ((sh.frames + 255) / 256)) _ x.1 in
    record {
      heads = λ b h. (a b h).0;
      pages = λ b p h i. (a b h).1 p i;
      entries = sym (eqb-true (limits_to m sh.tables) sh.pages u.1);
      frames = eqb-true (attached_to m sh.tables + held + free_from m sh.frames 0 sh.frames) sh.frames v.0;
      free = eqb-true (m (root root_free_frames)) (free_from m sh.frames 0 sh.frames) w.0;
      sixteens = λ g h. groups_is m sh.frames 0 16 ((sh.frames + 15) / 16) x.0 g (omega arith);
      hundreds = λ g h. groups_is m sh.frames 1 256 ((sh.frames + 255) / 256) y.0 g (omega arith);
      thousands = λ g h. groups_is m sh.frames 2 4096 ((sh.frames + 4095) / 4096) y.1 g (omega arith);
    }

pub structure_complete : (sh : Shape) (m : Mem) (held : ℕ) → Structure sh m held → structure_b m sh held ≡ true
unfolding structure_b tables_b frames_b levels_b
structure_complete sh m held s = rw (
  all_yes sh.tables (λ b. table_b m sh b (limits_to m b)) (λ b h. table_yes m sh b (limits_to m b) (s.heads b h) (λ p i. s.pages b p h i)),
  eq-eqb (limits_to m sh.tables) sh.pages (sym s.entries),
  eq-eqb (attached_to m sh.tables + held + free_from m sh.frames 0 sh.frames) sh.frames s.frames,
  eq-eqb (m (root root_free_frames)) (free_from m sh.frames 0 sh.frames) s.free,
  groups_yes m sh.frames 0 16 ((sh.frames + 15) / 16) (λ g h. s.sixteens g (omega arith)),
  groups_yes m sh.frames 1 256 ((sh.frames + 255) / 256) (λ g h. s.hundreds g (omega arith)),
  groups_yes m sh.frames 2 4096 ((sh.frames + 4095) / 4096) (λ g h. s.thousands g (omega arith)),
)
