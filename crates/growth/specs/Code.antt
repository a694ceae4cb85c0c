-- What the code's loops say, in the terms of the definitions. Assumes nothing.
use Rattle.std.specs.Prelude.{◌≡◌, refl, true, false, List, eqb}
use Rattle.std.proofs.Math.Path.{ap}
use Rattle.std.proofs.Common.{◌∙◌, add-one, eq-eqb, ne_eqb}
use Prim.Native.Nat.{ℕ, zero, suc, ◌+◌, ◌-◌, ◌≤◌, ◌<◌}
use native.Mathlib.Omega.{arith}
use Rattle.words.specs.Pick.{pick}
use Rattle.model.specs.State.{till}
use Rattle.model.specs.Storage.{slots_of}
use Rattle.layout.specs.declared.Shape.{Shape}
use Rattle.layout.specs.Layout.{Mem, item, load, save}
use Rattle.layout.specs.Fields.{item_page}
use Rattle.layout.specs.Sizes.{batch_max}
use Rattle.growth.specs.Words.{page_at, link_after, size_after, is_full, count_from, pages_w, same_pages, each_w, attach_next_w, attach_all_w, advance_w, aged_w, no_plan}

-- the loop of `pages_needed`: turn c of 64, and after the last
pub count_done : (m : Mem) (e l k d n c : ℕ) → c < batch_max → k ≡ 0 → count_from m e l (batch_max - c) k d n c ≡ c
unfolding count_from
count_done m e l k d n c i y = let z : batch_max - c ≡ suc (batch_max - (c + 1)) = omega arith in rw (z, y)

pub count_full : (m : Mem) (e l k d n c : ℕ) → c < batch_max → (k ≡ 0 → ⊥) → is_full d n l ≡ true → count_from m e l (batch_max - c) k d n c ≡ no_plan
unfolding count_from
count_full m e l k d n c i y q = let z : batch_max - c ≡ suc (batch_max - (c + 1)) = omega arith in rw (z, ne_eqb k 0 y, q)

pub count_more : (m : Mem) (e l k d n c : ℕ) → c < batch_max → (k ≡ 0 → ⊥) → is_full d n l ≡ false
    → count_from m e l (batch_max - c) k d n c ≡ count_from m e l (batch_max - (c + 1)) (k - slots_of till (page_at d n)) (link_after m e d) (size_after d n) (c + 1)
unfolding count_from
count_more m e l k d n c i y q = let z : batch_max - c ≡ suc (batch_max - (c + 1)) = omega arith in let x : c + 1 ≡ suc c = omega arith in rw (z, x, ne_eqb k 0 y, q)

pub count_end : (m : Mem) (e l k d n c : ℕ) → batch_max ≤ c → count_from m e l (batch_max - c) k d n c ≡ c
unfolding count_from
count_end m e l k d n c i = let z : batch_max - c ≡ 0 = omega arith in rw z

-- the turns of `grow`
first_all : (ws : List ℕ) (sh : Shape) (b n : ℕ) → attach_all_w (attach_next_w ws sh b) sh b n ≡ attach_next_w (attach_all_w ws sh b n) sh b
unfolding attach_all_w
first_all ws sh b zero = refl
first_all ws sh b (suc n) = ap (λ (u : List ℕ). attach_next_w u sh b) (first_all ws sh b n)

pub each_all : (ws : List ℕ) (sh : Shape) (b j n : ℕ) → each_w (λ i us. attach_next_w us sh b) j n ws ≡ attach_all_w ws sh b n
unfolding each_w attach_all_w
each_all ws sh b j zero = refl
each_all ws sh b j (suc n) = each_all (attach_next_w ws sh b) sh b (suc j) n ∙ first_all ws sh b n

-- the last turn of a step apart
each_later : (f : ℕ → List ℕ → List ℕ) (j n : ℕ) (ws : List ℕ) → each_w f j (suc n) ws ≡ f (j + n) (each_w f j n ws)
unfolding each_w
each_later f j zero ws = let z : j + 0 ≡ j = omega arith in rw z
each_later f j (suc n) ws = let z : suc j + n ≡ j + suc n = omega arith in each_later f (suc j) n (f j ws) ∙ ap (λ (i : ℕ). f i (each_w f (suc j) n (f j ws))) z

pub each_last : (f : ℕ → List ℕ → List ℕ) (n : ℕ) (ws : List ℕ) → each_w f 0 (n + 1) ws ≡ f n (each_w f 0 n ws)
each_last f n ws = let z : n + 1 ≡ suc n = omega arith in let y : 0 + n ≡ n = omega arith in ap (λ (k : ℕ). each_w f 0 k ws) z ∙ each_later f 0 n ws ∙ ap (λ (i : ℕ). f i (each_w f 0 n ws)) y

-- the loop of `list_pages`: turn j of k, and after the last
pub pages_step : (ws : List ℕ) (sh : Shape) (e x d n k j : ℕ) → j < k
    → pages_w ws sh e x j d n (k - j) ≡ pages_w (save ws sh (item x j item_page) (page_at d n)) sh e x (j + 1) (link_after (load ws sh) e d) (size_after d n) (k - (j + 1))
unfolding pages_w
pages_step ws sh e x d n k j i = let z : k - j ≡ suc (k - (j + 1)) = omega arith in rw (z, add-one j)

pub pages_end : (ws : List ℕ) (sh : Shape) (e x d n k j : ℕ) → k ≤ j → pages_w ws sh e x j d n (k - j) ≡ ws
unfolding pages_w
pages_end ws sh e x d n k j i = let z : k - j ≡ 0 = omega arith in rw z

-- of `pages_same`
pub same_step : (m : Mem) (e x d n k j : ℕ) → j < k
    → same_pages m e x j d n (k - j) ≡ pick (eqb (m (item x j item_page)) (page_at d n)) (same_pages m e x (j + 1) (link_after m e d) (size_after d n) (k - (j + 1))) false
unfolding same_pages
same_step m e x d n k j i = let z : k - j ≡ suc (k - (j + 1)) = omega arith in rw (z, add-one j)

pub same_end : (m : Mem) (e x d n k j : ℕ) → k ≤ j → same_pages m e x j d n (k - j) ≡ true
unfolding same_pages
same_end m e x d n k j i = let z : k - j ≡ 0 = omega arith in rw z

-- the epoch after n turns, which left us
pub aged_some : (ws us vs : List ℕ) (sh : Shape) (b n : ℕ) → us ≡ ws → (n ≡ 0 → ⊥) → vs ≡ advance_w us sh b → vs ≡ aged_w ws sh b n
unfolding aged_w
aged_some ws us vs sh b n e d q = rw (ne_eqb n 0 d) (q ∙ ap (λ (u : List ℕ). advance_w u sh b) e)

pub aged_none : (ws us : List ℕ) (sh : Shape) (b n : ℕ) → us ≡ ws → n ≡ 0 → us ≡ aged_w ws sh b n
unfolding aged_w
aged_none ws us sh b n e d = rw (eq-eqb n 0 d) e
