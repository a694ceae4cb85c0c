-- The row of a plan to come: its pages in the items, the lowest free frames taken for it one by one, and what it keeps beside. Assumes nothing.
use Rattle.std.specs.Prelude.{◌≡◌, refl, length, take, drop}
use Rattle.std.proofs.Common.{sym, ap, ◌∙◌, arith, eq-eqb, ne_eqb}
use Rattle.std.proofs.Math.Bool.{and-false}
use mathlib.Core.List.{List, [], ◌∷◌}
use Prim.Native.Nat.{ℕ, zero, suc, ◌+◌, ◌≤◌, ◌<◌, min}
use Rattle.words.specs.Pick.{bool}
use Rattle.model.specs.Base.{occurs}
use Rattle.model.specs.State.{State}
use Rattle.model.specs.Change.{with_frames}
use Rattle.model.proofs.Counting.{bit_same}
use Rattle.layout.specs.declared.Shape.{Shape}
use Rattle.layout.specs.Layout.{Addr.reg, total, root, head, owner, index, row, item, load, save, same, same_is, is_in, in_row, in_item, length_save, load_save, load_save_any, Write.at, upds, load_writes}
use Rattle.layout.specs.Fields.{root_used_rows, head_epoch, head_free_slots, head_pages, head_first_detached, head_first_entry, index_place, row_count, row_epoch, item_page, item_frame, item_free_slots}
use Rattle.layout.specs.Sizes.{batch_max, rows_max, plan_owner}
use Rattle.layout.specs.RegionNames.{region_root, region_owner, region_index, region_row}
use Rattle.representation.specs.Represents.{Items, HeldIs}
use Rattle.storage.specs.Kept.{items_kept}
use Rattle.storage.specs.Reps.{Held}
use Rattle.frames.specs.Pool.{down}
use Rattle.frames.specs.Frames.{taken_first}
use Rattle.frames.specs.Ops.{take_frame_w}
use Rattle.frames.specs.Words.{Steps, take_steps}
use Rattle.frames.specs.Done.{pool_rows}
use Rattle.frames.specs.Lowest.{Owners, lowest_free}
use Rattle.frames.specs.Apart.{pool_root, take_held, owners_taken}
use Rattle.book.specs.Ops.{spare, Fills, fills_then, fills_row, fills_item}
use Rattle.book.specs.Decided.{spare_low}
use Rattle.book.specs.Swap.{spare_held}
use Rattle.growth.specs.Words.{list_pages_w, each_w}
use Rattle.growth.specs.Next.{length_pages, pages_off, pages_items, next_of}
use Rattle.plan.specs.Ops.{hold_w, hold_all_w, kept_w}

-- the place of the next row, where its words stay
pub spare_fills : (ws ws' : List ℕ) (sh : Shape) (x : ℕ) → Fills ws ws' sh x → spare (load ws' sh) ≡ spare (load ws sh)
spare_fills ws ws' sh x p = ap (λ (i : ℕ). load ws' sh (index i)) (p.rest region_root 0 0 root_used_rows (λ q z. omega arith)) ∙ p.rest region_index (load ws sh (root root_used_rows)) 0 index_place (λ q z. omega arith)

-- ---- the pages

module _ (ws : List ℕ) (sh : Shape) (h : total sh ≤ length ws) (b x k : ℕ) where
  pub pages_fills : Fills ws (list_pages_w ws sh b x k) sh x
  unfolding list_pages_w
  pages_fills = record {
    long = length_pages sh (load ws sh (head b head_first_entry)) x k ws 0 (load ws sh (head b head_first_detached)) (load ws sh (head b head_pages));
    rest = λ r z y f n. pages_off sh (load ws sh (head b head_first_entry)) x k ws 0 (load ws sh (head b head_first_detached)) (load ws sh (head b head_pages)) h (reg r z y f)
        (λ i. bool (same (item x i item_page) (reg r z y f))
        (λ e. let q : reg r z y f ≡ item x i item_page = same_is (item x i item_page) (reg r z y f) e in
        let a : r ≡ region_row = cc in let c : z ≡ x = cc in absurd (n a c))
        (λ e. e));
  }

  pub pages_listed : x < sh.rows → k ≤ batch_max → Items (λ i p. load (list_pages_w ws sh b x k) sh (item x i item_page) ≡ p) 0 (next_of (load ws sh) b k)
  unfolding list_pages_w
  pages_listed low few = pages_items sh (load ws sh (head b head_first_entry)) x low (load ws sh) k ws 0 (load ws sh (head b head_first_detached)) (load ws sh (head b head_pages)) h (omega arith) (λ q f. refl)

-- ---- the frames

-- from words ws, which represent s, to words ws', which represent s': the frames fs are held for the items from j on of the row in place x, and no other word that counts has changed
pub record Holding (sh : Shape) (x : ℕ) (ws : List ℕ) (s : State) (ws' : List ℕ) (s' : State) (j : ℕ) (fs : List ℕ) : Type 0 where
  pub held : Held ws' sh s'
  pub frames : Items (HeldIs (load ws' sh) x) j fs
  pub before : (i : ℕ) → i < j → load ws' sh (item x i item_frame) ≡ load ws sh (item x i item_frame)
  pub owners : (g : ℕ) → occurs g s.frames ≡ 0 → load ws' sh (owner g) ≡ load ws sh (owner g)
  pub pages : (i : ℕ) → load ws' sh (item x i item_page) ≡ load ws sh (item x i item_page)
  pub place : spare (load ws' sh) ≡ spare (load ws sh)

-- one frame, the lowest
module _ (ws : List ℕ) (sh : Shape) (s : State) (h : Held ws sh s) (w : Owners (load ws sh) s) (x : ℕ) (at_spare : x ≡ spare (load ws sh)) (free : length s.book.rows < s.book.capacity)
    (f : ℕ) (fs : List ℕ) (first : s.frames ≡ f ∷ fs) (j : ℕ) (few : j < batch_max) where
  abbrev ws₁ : List ℕ
  ws₁ = take_frame_w ws sh f (plan_owner + x)

  abbrev ws₂ : List ℕ
  ws₂ = save (take_frame_w ws sh f (plan_owner + x)) sh (item x j item_frame) f

  low : x < sh.rows
  low = rw at_spare (spare_low ws sh s h free)

  below : f < s.frame_count
  below = w.below f (rw first (omega (arith, bit_same f f refl)))

  hold_is : hold_w sh x j ws ≡ ws₂
  unfolding hold_w
  hold_is = let o : min x rows_max ≡ x = omega (arith, low, h.reps.shaped.limits.few_rows) in rw (lowest_free ws sh s h w f fs first, o)

  steps : Steps down ws ws₁ sh f (plan_owner + x)
  steps = take_steps ws sh h.reps.shaped.room f (omega (arith, below, h.reps.memory.frame_count)) (plan_owner + x)

  room₁ : total sh ≤ length ws₁
  room₁ = omega (arith, steps.long, h.reps.shaped.room)

  fills : Fills ws₁ ws₂ sh x
  fills = fills_item ws₁ sh room₁ x j item_frame f

  spare₁ : spare (load ws₁ sh) ≡ spare (load ws sh)
  spare₁ = ap (λ (i : ℕ). load ws₁ sh (index i)) (pool_root f (load ws sh) (load ws₁ sh) steps.only root_used_rows (λ e. omega arith)) ∙ (pool_rows f (load ws sh) (load ws₁ sh) steps.only).places (load ws sh (root root_used_rows))

  owner_same : (g : ℕ) → load ws₂ sh (owner g) ≡ load ws₁ sh (owner g)
  owner_same g = fills.rest region_owner g 0 0 (λ q z. omega arith)

  item_same : (i g : ℕ) → load ws₁ sh (item x i g) ≡ load ws sh (item x i g)
  item_same i g = (pool_rows f (load ws sh) (load ws₁ sh) steps.only).items x i g

  gone : occurs f fs ≡ 0
  gone = (taken_first f fs s.frames first w.rising).gone

  hold_one : Holding sh x ws s ws₂ (with_frames s fs) j (f ∷ [])
  hold_one = record {
    held = spare_held ws₁ ws₂ sh (with_frames s fs) (take_held ws sh s h f below fs (taken_first f fs s.frames first w.rising) (plan_owner + x)) x fills free (at_spare ∙ sym spare₁);
    frames = (
      (
        load_save ws₁ sh room₁ (item x j item_frame) f (in_item sh x j item_frame low few (omega arith)) (item x j item_frame) ∙ rw (eq-eqb j j refl, eq-eqb x x refl),
        owner_same f ∙ steps.pool.own,
      ),
      tt,
    );
    before = λ i l. load_save_any ws₁ sh room₁ (item x j item_frame) f (item x i item_frame)
        ∙ rw (ne_eqb i j (λ e. omega arith), and-false (is_in sh (item x j item_frame))) (item_same i item_frame);
    owners = λ g o. owner_same g ∙ steps.pool.owners g (λ (e : g ≡ f). let d : occurs g s.frames ≡ occurs f s.frames = ap (λ (v : ℕ). occurs v s.frames) e in
        let c : occurs f s.frames ≡ occurs f (f ∷ fs) = ap (occurs f) first in omega (arith, bit_same f f refl));
    pages = λ i. load_save_any ws₁ sh room₁ (item x j item_frame) f (item x i item_page) ∙ rw (and-false (is_in sh (item x j item_frame))) (item_same i item_page);
    place = spare_fills ws₁ ws₂ sh x fills ∙ spare₁;
  }

  hold_owners : Owners (load ws₂ sh) (with_frames s fs)
  hold_owners = let o = owners_taken ws sh s h f below fs first (plan_owner + x) (omega arith) w in
      record { rising = o.rising; below = o.below; owned = λ g l i. rw (owner_same g) (o.owned g l i) }

-- THE FRAMES: the k lowest
pub hold_all : (sh : Shape) (x k : ℕ) (ws : List ℕ) (s : State) (j : ℕ) → Held ws sh s → Owners (load ws sh) s → x ≡ spare (load ws sh) → length s.book.rows < s.book.capacity → k ≤ length s.frames
    → j + k ≤ batch_max → Holding sh x ws s (hold_all_w sh x j k ws) (with_frames s (drop k s.frames)) j (take k s.frames)
unfolding each_w
hold_all sh x zero ws s j h w e free l few = record { held = h; frames = tt; before = λ i d. refl; owners = λ g d. refl; pages = λ i. refl; place = refl }
hold_all sh x (suc k) ws s j h w e free l few = go s.frames refl (λ v u a b c d y. hold_all sh x k v u (suc j) a b c d y (omega arith))
  where
    go : (fr : List ℕ) → s.frames ≡ fr
        → ((v : List ℕ) (u : State) → Held v sh u → Owners (load v sh) u → x ≡ spare (load v sh) → length u.book.rows < u.book.capacity → k ≤ length u.frames
        → Holding sh x v u (hold_all_w sh x (suc j) k v) (with_frames u (drop k u.frames)) (suc j) (take k u.frames))
        → Holding sh x ws s (hold_all_w sh x j (suc k) ws) (with_frames s (drop (suc k) fr)) j (take (suc k) fr)
    go [] first rest = absurd (omega (arith, ap length first))
    go (f ∷ fs) first rest =
        let one = hold_one ws sh s h w x e free f fs first j (omega arith) in
        let w₂ : List ℕ = save (take_frame_w ws sh f (plan_owner + x)) sh (item x j item_frame) f in
        let i = rest w₂ (with_frames s fs) one.held (hold_owners ws sh s h w x e free f fs first j (omega arith)) (e ∙ sym one.place) free (omega (arith, ap length first)) in
        rw (hold_is ws sh s h w x e free f fs first j (omega arith)) (record {
          held = i.held;
          frames = ((i.before j (omega arith) ∙ one.frames.0.0, i.owners f (gone ws sh s h w x e free f fs first j (omega arith)) ∙ one.frames.0.1), i.frames);
          before = λ y d. i.before y (omega arith) ∙ one.before y d;
          owners = λ g d. i.owners g (let c : occurs g s.frames ≡ occurs g (f ∷ fs) = ap (occurs g) first in omega arith) ∙ one.owners g d;
          pages = λ y. i.pages y ∙ one.pages y;
          place = i.place ∙ one.place;
        })

-- ---- what it keeps beside

module _ (ws : List ℕ) (sh : Shape) (h : total sh ≤ length ws) (b x n : ℕ) where
  pub kept_fills : Fills ws (kept_w ws sh b x n) sh x
  unfolding kept_w
  kept_fills =
      let w₁ : List ℕ = save ws sh (row x row_count) n in let w₂ : List ℕ = save w₁ sh (row x row_epoch) (load ws sh (head b head_epoch)) in
      let l₁ = length_save ws sh (row x row_count) n in let l₂ = length_save w₁ sh (row x row_epoch) (load ws sh (head b head_epoch)) in
      fills_then ws w₁ (save w₂ sh (item x 0 item_free_slots) (load ws sh (head b head_free_slots))) sh x (fills_row ws sh h x row_count n)
      (fills_then w₁ w₂ (save w₂ sh (item x 0 item_free_slots) (load ws sh (head b head_free_slots))) sh x (fills_row w₁ sh (omega arith) x row_epoch (load ws sh (head b head_epoch)))
      (fills_item w₂ sh (omega arith) x 0 item_free_slots (load ws sh (head b head_free_slots))))

  module _ (low : x < sh.rows) where
    sees : load (kept_w ws sh b x n) sh ≡ upds (load ws sh) (at (row x row_count) n ∷ at (row x row_epoch) (load ws sh (head b head_epoch)) ∷ at (item x 0 item_free_slots) (load ws sh (head b head_free_slots)) ∷ [])
    unfolding kept_w
    sees = load_writes ws sh h (at (row x row_count) n ∷ at (row x row_epoch) (load ws sh (head b head_epoch)) ∷ at (item x 0 item_free_slots) (load ws sh (head b head_free_slots)) ∷ [])
        (in_row sh x row_count low (omega arith), (in_row sh x row_epoch low (omega arith), (in_item sh x 0 item_free_slots low (omega arith) (omega arith), tt)))

    pub kept_count : load (kept_w ws sh b x n) sh (row x row_count) ≡ n
    kept_count = rw sees (rw (eq-eqb x x refl))

    pub kept_epoch : load (kept_w ws sh b x n) sh (row x row_epoch) ≡ load ws sh (head b head_epoch)
    kept_epoch = rw sees (rw (eq-eqb x x refl))

    pub kept_slots : load (kept_w ws sh b x n) sh (item x 0 item_free_slots) ≡ load ws sh (head b head_free_slots)
    kept_slots = rw sees (rw (eq-eqb x x refl))

    -- the items' pages and frames stay
    pub kept_pages : (j : ℕ) (ps : List ℕ) → Items (λ i p. load ws sh (item x i item_page) ≡ p) j ps → Items (λ i p. load (kept_w ws sh b x n) sh (item x i item_page) ≡ p) j ps
    kept_pages = items_kept (λ i p. load ws sh (item x i item_page) ≡ p) (λ i p. load (kept_w ws sh b x n) sh (item x i item_page) ≡ p) (λ i p e. rw sees e)

    pub kept_frames : (j : ℕ) (fs : List ℕ) → Items (HeldIs (load ws sh) x) j fs → Items (HeldIs (load (kept_w ws sh b x n) sh) x) j fs
    kept_frames = items_kept (HeldIs (load ws sh) x) (HeldIs (load (kept_w ws sh b x n) sh) x) (λ i f e. (rw sees e.0, rw sees e.1))
