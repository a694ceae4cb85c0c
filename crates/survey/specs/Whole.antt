-- Of an outline that passes, the walk's answer is that of the slots' tests and of the marks'; where it is yes, every handle is counted. Which objects the handles are of. Assumes nothing.
use Rattle.std.specs.Prelude.{◌≡◌, List, [], ◌&&◌}
use Rattle.std.proofs.Math.Path.{refl, sym, ap}
use Rattle.std.proofs.Common.{◌∙◌}
use Rattle.std.proofs.Math.Bool.{Bool, true}
use Prim.Native.Nat.{ℕ, zero, suc, ◌+◌, ◌-◌, ◌*◌, ◌≤◌, ◌<◌, min}
use native.Mathlib.Omega.{arith}
use Rattle.std.proofs.Math.Dec.{eqb, ltb}
use borrow.Author.Tests.{eq-eqb, ne_eqb, eqb-true, lt-ltb}
use Rattle.words.specs.Pick.{pick, pick_has, bool, both, both_is}
use Rattle.words.specs.All.{all, all_at, all_yes, all_same}
use Rattle.model.specs.Base.{bit, occurs}
use Rattle.model.specs.State.{till, max_slots}
use Rattle.model.specs.Storage.{slots_of}
use Rattle.model.proofs.Sums.{sum_part}
use Rattle.layout.specs.declared.Shape.{Shape}
use Rattle.layout.specs.Layout.{Mem, head, entry, cell}
use Rattle.layout.specs.Cells.{cell_at}
use Rattle.layout.specs.Fields.{head_page_limit, head_lifecycle, head_pages, head_first_entry, entry_frame, entry_high, entry_busy, slot_tag, slot_object}
use Rattle.layout.specs.Values.{life_retired, tag_occupied}
use Rattle.layout.specs.Sizes.{page_size, pages_max}
use Rattle.structure.specs.Facts.{limits_to, busy_cells}
use Rattle.structure.specs.Checks.{bound_of, handle_c, slot_c, slot_b, slots_b, outline_b}
use Rattle.structure.specs.Split.{and_swap, all_both, slot_by, slots_on, slots_at, slots_in, outline_entries, outline_head, outline_link}
use Rattle.ledger.specs.Ledger.{slot_b as mark_at, slot_count, page_b as marks_on, table_b as marks_in, marks_b}
use Rattle.counts.specs.Found.{gather, is_occupied, on_link, in_cell, in_page, in_table}
use Rattle.counts.specs.Used.{Among, among_gather}
use Rattle.counts.specs.Handles.{occurs_gather}
use Rattle.survey.specs.Code.{slot_holds}
use Rattle.survey.specs.Walk.{cell_b, slot_at, frame_b, on_frame, page_b, table_b, survey_b, passed, passed_all, frame_found, page_found, table_found}

count_is : (p : ℕ) → slot_count p ≡ slots_of till p
unfolding slot_count max_slots
count_is p = omega arith

module _ (m : Mem) (sh : Shape) where
  slot_whole : (b p life high f j : ℕ) → (slot_b m sh.objects life high f j && mark_at m sh b p f j) ≡ slot_at m sh b p (bound_of sh.objects life) high f j
  unfolding mark_at cell_b
  slot_whole b p life high f j = rw (← slot_by m sh.objects life high f j)

  slots_whole : (b p life high f n w : ℕ) → (slots_b m sh.objects life high f n w && all n (mark_at m sh b p f)) ≡ frame_b m sh b p (bound_of sh.objects life) high f n w
  unfolding slots_b frame_b
  slots_whole b p life high f n w =
      and_swap (all n (slot_b m sh.objects life high f)) (eqb (busy_cells m f n) w) (all n (mark_at m sh b p f))
      ∙ ap (λ (x : Bool). x && eqb (busy_cells m f n) w)
      (sym (all_both n (slot_b m sh.objects life high f) (mark_at m sh b p f)) ∙ all_same n _ _ (λ j h. slot_whole b p life high f j))

  -- of a frame that is one of the state's, or none
  link_whole : (b p life e l : ℕ) → ((f : ℕ) → l ≡ suc f → f < sh.frames) → (slots_on m sh life e (slots_of till p) l && pick (eqb l 0) true (all (slot_count p) (mark_at m sh b p (l - 1))))
      ≡ on_frame l (λ f. ltb f sh.frames && frame_b m sh b p (bound_of sh.objects life) (m (entry e entry_high)) f (slots_of till p) (m (entry e entry_busy)))
  unfolding slots_on
  link_whole b p life e zero k = refl
  link_whole b p life e (suc f) k = let y : suc f - 1 ≡ f = omega arith in
      rw (ne_eqb (suc f) 0 (λ z. omega arith), y, count_is p, lt-ltb f sh.frames (k f refl)) (slots_whole b p life (m (entry e entry_high)) f (slots_of till p) (m (entry e entry_busy)))

  module _ (held : ℕ) (y : outline_b m sh held ≡ true) where
    page_whole : (b p : ℕ) → b < sh.tables → p < m (head b head_pages) → m (head b head_first_entry) ≡ limits_to m b → (slots_at m sh b p && marks_on m sh b p) ≡ page_b m sh b (bound_of sh.objects (m (head b head_lifecycle))) (m (head b head_first_entry)) p
    unfolding marks_on page_b
    page_whole b p l i h = ap (λ (e : ℕ). slots_on m sh (m (head b head_lifecycle)) (e + p) (slots_of till p) (m (entry (e + p) entry_frame)) && marks_on m sh b p) (sym h)
        ∙ link_whole b p (m (head b head_lifecycle)) (m (head b head_first_entry) + p) (m (entry (m (head b head_first_entry) + p) entry_frame)) (λ f q. outline_link m sh held y b p f l i (ap (λ (e : ℕ). m (entry (e + p) entry_frame)) (sym h) ∙ q))

    table_whole : (b : ℕ) → b < sh.tables → (slots_in m sh b && marks_in m sh b) ≡ table_b m sh sh.objects b
    unfolding marks_in table_b
    table_whole b l =
        let h = outline_head m sh held y b l in let n : ℕ = m (head b head_pages) in
        let u : min n pages_max ≡ n = omega (arith, h.size, h.few_limit) in
        let v : min n sh.pages ≡ n = omega (arith, h.size, outline_entries m sh held y, sum_part sh.tables (λ c. m (head c head_page_limit)) b l) in
        rw (u, v) (sym (all_both n (slots_at m sh b) (marks_on m sh b)) ∙ all_same n _ _ (λ p k. page_whole b p l k h.first))

    -- THE WALK TESTS BOTH
    pub survey_whole : (all sh.tables (slots_in m sh) && marks_b m sh) ≡ survey_b m sh sh.objects
    unfolding marks_b survey_b
    survey_whole = sym (all_both sh.tables (slots_in m sh) (marks_in m sh)) ∙ all_same sh.tables _ _ table_whole

-- ---- where every slot passes, every handle is counted

gather_same : (n : ℕ) (f g : ℕ → List ℕ) → ((k : ℕ) → k < n → f k ≡ g k) → gather n f ≡ gather n g
gather_same zero f g h = refl
gather_same (suc n) f g h = rw (gather_same n f g (λ k l. h k (omega arith)), h n (omega arith))

module _ (m : Mem) (sh : Shape) where
  page_found_law : (b bound e p : ℕ) → page_b m sh b bound e p ≡ true → page_found m sh b bound e p ≡ in_page m e p
  unfolding page_b page_found frame_b frame_found
  page_found_law b bound e p = go (m (entry (e + p) entry_frame))
    where
      go : (l : ℕ) → on_frame l (λ f. ltb f sh.frames && frame_b m sh b p bound (m (entry (e + p) entry_high)) f (slots_of till p) (m (entry (e + p) entry_busy))) ≡ true
          → on_link l (λ f. pick (ltb f sh.frames) (frame_found m sh b p bound (m (entry (e + p) entry_high)) f (slots_of till p)) []) ≡ on_link l (λ f. gather (slots_of till p) (in_cell m f))
      go zero q = refl
      go (suc f) q =
          let t = both (ltb f sh.frames) (frame_b m sh b p bound (m (entry (e + p) entry_high)) f (slots_of till p) (m (entry (e + p) entry_busy))) q in
          let P : ℕ → Bool = slot_at m sh b p bound (m (entry (e + p) entry_high)) f in
          let a = (both (all (slots_of till p) P) (eqb (busy_cells m f (slots_of till p)) (m (entry (e + p) entry_busy))) t.1).0 in
          rw t.0 (ap (λ (n : ℕ). gather n (in_cell m f)) (passed_all (slots_of till p) P a))

  table_found_law : (u b : ℕ) → table_b m sh u b ≡ true → table_found m sh u b ≡ in_table m sh b
  unfolding table_b table_found
  table_found_law u b q = let n : ℕ = min (m (head b head_pages)) sh.pages in let k : ℕ = bound_of u (m (head b head_lifecycle)) in
      gather_same n _ _ (λ p h. page_found_law b k (m (head b head_first_entry)) p (all_at n (page_b m sh b k (m (head b head_first_entry))) q p h))

  pub survey_found : (u : ℕ) → survey_b m sh u ≡ true → gather sh.tables (table_found m sh u) ≡ gather sh.tables (in_table m sh)
  unfolding survey_b
  survey_found u q = gather_same sh.tables _ _ (λ b h. table_found_law u b (all_at sh.tables (table_b m sh u) q b h))

-- ---- the handles that are counted are of the first u objects

passed_at : (n : ℕ) (P : ℕ → Bool) (j : ℕ) → j < passed n P → P j ≡ true
unfolding passed
passed_at zero P j l = absurd (omega arith)
passed_at (suc n) P j l = bool (all (suc n) P)
    (λ e. all_at (suc n) P e j (rw e at l))
    (λ e. passed_at n P j (rw e at l))

-- a table's bound is at most the one that it is given
bound_least : (u life o : ℕ) → o < bound_of u life → o < u
bound_least u life o = pick_has (λ (k : ℕ). o < k → o < u) (eqb life life_retired) 0 u (λ e h. absurd (omega arith)) (λ e h. h)

module _ (m : Mem) (sh : Shape) where
  cell_among : (b p bound high f j : ℕ) → slot_at m sh b p bound high f j ≡ true → Among bound (in_cell m f j)
  cell_among b p bound high f j e o h = bool (is_occupied (m (cell f j slot_tag)))
      (λ t. let z : 1 ≤ bit (eqb o (m (cell f j slot_object))) + 0 = rw t at h in
      let l : m (cell f j slot_object) < bound = slot_holds m sh b (p * page_size + j) bound high (cell_at m f j) true (sym e) refl (eqb-true (m (cell f j slot_tag)) tag_occupied t) in
      bool (eqb o (m (cell f j slot_object)))
      (λ q. rw (eqb-true o (m (cell f j slot_object)) q) l)
      (λ q. let y : 1 ≤ 0 + 0 = rw q at z in absurd (omega (arith, y))))
      (λ t. let z : 1 ≤ 0 = rw t at h in absurd (omega (arith, z)))

  page_among : (b bound e p : ℕ) → Among bound (page_found m sh b bound e p)
  unfolding page_found frame_found
  page_among b bound e p = go (m (entry (e + p) entry_frame))
    where
      high : ℕ
      high = m (entry (e + p) entry_high)

      go : (l : ℕ) → Among bound (on_link l (λ f. pick (ltb f sh.frames) (gather (passed (slots_of till p) (slot_at m sh b p bound high f)) (in_cell m f)) []))
      go zero = λ o h. absurd (omega (arith, h))
      go (suc f) = pick_has (Among bound) (ltb f sh.frames) (gather (passed (slots_of till p) (slot_at m sh b p bound high f)) (in_cell m f)) []
          (λ d. among_gather bound (passed (slots_of till p) (slot_at m sh b p bound high f)) (in_cell m f) (λ j l. cell_among b p bound high f j (passed_at (slots_of till p) (slot_at m sh b p bound high f) j l)))
          (λ d o h. absurd (omega (arith, h)))

  pub survey_among : (u : ℕ) → Among u (gather sh.tables (table_found m sh u))
  unfolding table_found
  survey_among u = among_gather u sh.tables (table_found m sh u) (λ b h o l. bound_least u (m (head b head_lifecycle)) o
      (among_gather (bound_of u (m (head b head_lifecycle))) (min (m (head b head_pages)) sh.pages) (page_found m sh b (bound_of u (m (head b head_lifecycle))) (m (head b head_first_entry)))
      (λ p k. page_among b (bound_of u (m (head b head_lifecycle))) (m (head b head_first_entry)) p) o l))

-- ---- slots that pass for u objects pass for v, if each of their handles is of one of these

-- a list of many has what one of them has
occurs_part : (o n : ℕ) (f : ℕ → List ℕ) (k : ℕ) → k < n → occurs o (f k) ≤ occurs o (gather n f)
occurs_part o n f k l = omega (arith, occurs_gather o n f, sum_part n (λ i. occurs o (f i)) k l)

-- the objects of a list that are below a bound are below another
abbrev Carries : List ℕ → ℕ → ℕ → Type 0
Carries os k l = (o : ℕ) → 1 ≤ occurs o os → o < k → o < l

carries_part : (n : ℕ) (f : ℕ → List ℕ) (k l i : ℕ) → i < n → Carries (gather n f) k l → Carries (f i) k l
carries_part n f k l i h c o a b = c o (omega (arith, a, occurs_part o n f i h)) b

bound_carries : (os : List ℕ) (u v life : ℕ) → Carries os u v → Carries os (bound_of u life) (bound_of v life)
bound_carries os u v life c o h = bool (eqb life life_retired) (λ e. rw e (λ l. absurd (omega (arith, l)))) (λ e. rw e (c o h))

module _ (m : Mem) (sh : Shape) where
  cell_other : (b p k l high f j : ℕ) → slot_at m sh b p k high f j ≡ true → Carries (in_cell m f j) k l → slot_at m sh b p l high f j ≡ true
  unfolding cell_b slot_c handle_c
  cell_other b p k l high f j e c = bool (eqb (m (cell f j slot_tag)) tag_occupied)
      (λ t. let x : ℕ = m (cell f j slot_object) in
      let a : x < k = slot_holds m sh b (p * page_size + j) k high (cell_at m f j) true (sym e) refl (eqb-true (m (cell f j slot_tag)) tag_occupied t) in
      let o : 1 ≤ occurs x (in_cell m f j) = rw (t, eq-eqb x x refl) (omega arith) in
      rw (t, lt-ltb x l (c x o a)) (rw (t, lt-ltb x k a) at e))
      (λ t. rw t (rw t at e))

  page_other : (b k l e p : ℕ) → page_b m sh b k e p ≡ true → Carries (in_page m e p) k l → page_b m sh b l e p ≡ true
  unfolding page_b frame_b
  page_other b k l e p = go (m (entry (e + p) entry_frame))
    where
      high : ℕ
      high = m (entry (e + p) entry_high)

      busy : ℕ → Bool
      busy f = eqb (busy_cells m f (slots_of till p)) (m (entry (e + p) entry_busy))

      go : (i : ℕ) → on_frame i (λ f. ltb f sh.frames && (all (slots_of till p) (slot_at m sh b p k high f) && busy f)) ≡ true → Carries (on_link i (λ f. gather (slots_of till p) (in_cell m f))) k l
          → on_frame i (λ f. ltb f sh.frames && (all (slots_of till p) (slot_at m sh b p l high f) && busy f)) ≡ true
      go zero q c = refl
      go (suc f) q c =
          let t = both (ltb f sh.frames) _ q in
          let a = both (all (slots_of till p) (slot_at m sh b p k high f)) (busy f) t.1 in
          both_is (ltb f sh.frames) _ t.0 (both_is (all (slots_of till p) (slot_at m sh b p l high f)) (busy f)
          (all_yes (slots_of till p) (slot_at m sh b p l high f)
          (λ j h. cell_other b p k l high f j (all_at (slots_of till p) (slot_at m sh b p k high f) a.0 j h) (carries_part (slots_of till p) (in_cell m f) k l j h c)))
          a.1)

  table_other : (u v b : ℕ) → table_b m sh u b ≡ true → Carries (in_table m sh b) u v → table_b m sh v b ≡ true
  unfolding table_b
  table_other u v b q c =
      let n : ℕ = min (m (head b head_pages)) sh.pages in let e : ℕ = m (head b head_first_entry) in
      let k : ℕ = bound_of u (m (head b head_lifecycle)) in let l : ℕ = bound_of v (m (head b head_lifecycle)) in
      all_yes n (page_b m sh b l e) (λ p h. page_other b k l e p (all_at n (page_b m sh b k e) q p h)
      (carries_part n (in_page m e) k l p h (bound_carries (in_table m sh b) u v (m (head b head_lifecycle)) c)))

  pub survey_other : (u v : ℕ) → survey_b m sh u ≡ true → Carries (gather sh.tables (in_table m sh)) u v → survey_b m sh v ≡ true
  unfolding survey_b
  survey_other u v q c = all_yes sh.tables (table_b m sh v) (λ b h. table_other u v b (all_at sh.tables (table_b m sh u) q b h) (carries_part sh.tables (in_table m sh) u v b h c))
