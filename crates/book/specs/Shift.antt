-- The index while a row leaves: the rows after it come one rank down. Assumes nothing.
use Rattle.std.specs.Prelude.{◌≡◌, refl, List, ℕ, zero, suc, ◌+◌, ◌-◌, ◌≤◌, ◌<◌, length}
use Rattle.std.proofs.Common.{sym, ap, ◌∙◌, inl, inr, ⊎_elim, arith, eq-eqb, ne_eqb}
use Rattle.layout.specs.declared.Shape.{Shape}
use Rattle.layout.specs.Layout.{Mem, total, root, index, rank, row, item, load, in_index, in_rank, upds, length_writes, load_writes}
use Rattle.storage.specs.Order.{same?}
use Rattle.book.specs.Places.{Indexed, ranked}
use Rattle.book.specs.Whole.{Books, books_none, books_then, books_writes}
use Rattle.book.specs.Ops.{shift_p, shift_w}

-- n after k turns from rank r on, of c places
pub record Shifted (m n : Mem) (c r k : ℕ) : Type 0 where
  pub index_in : (j : ℕ) → r ≤ j → j < r + k → n (index j) ≡ m (index (j + 1))
  pub index_low : (j : ℕ) → j < r → n (index j) ≡ m (index j)
  pub index_high : (j : ℕ) → r + k ≤ j → n (index j) ≡ m (index j)
  pub rank_in : (z : ℕ) → z < c → r < m (rank z) → m (rank z) ≤ r + k → n (rank z) ≡ m (rank z) - 1
  pub rank_low : (z : ℕ) → z < c → m (rank z) ≤ r → n (rank z) ≡ m (rank z)
  pub rank_high : (z : ℕ) → z < c → r + k < m (rank z) → n (rank z) ≡ m (rank z)
  pub rows : (z f : ℕ) → n (row z f) ≡ m (row z f)
  pub items : (z j f : ℕ) → n (item z j f) ≡ m (item z j f)
  pub roots : (f : ℕ) → n (root f) ≡ m (root f)

-- one turn more
turn : (m n : Mem) (c r k : ℕ) → Indexed m c → r + suc k < c → Shifted m n c r k → Shifted m (upds n (shift_p n (r + k))) c r (suc k)
turn m n c r k ix l p =
    let y : ℕ = m (index (r + k + 1)) in
    let e : n (index (r + k + 1)) ≡ y = p.index_high (r + k + 1) (omega arith) in
    let named = ix.named (r + k + 1) (omega arith) in
    let ry : m (rank (m (index (r + k + 1)))) ≡ r + k + 1 = named.1 in
    let far : (z : ℕ) → (m (rank z) ≡ r + k + 1 → ⊥) → z ≡ n (index (r + k + 1)) → ⊥ = λ z d q. d (ap (λ (v : ℕ). m (rank v)) (q ∙ e) ∙ ry) in
    record {
      index_in = λ j a b. ⊎_elim
          (λ (q : j ≡ r + k). rw (eq-eqb j (r + k) q) (e ∙ ap (λ (v : ℕ). m (index (v + 1))) (sym q)))
          (λ (q : j ≡ r + k → ⊥). rw (ne_eqb j (r + k) q) (p.index_in j a (omega arith)))
          (same? j (r + k));
      index_low = λ j a. rw (ne_eqb j (r + k) (λ q. omega arith)) (p.index_low j a);
      index_high = λ j a. rw (ne_eqb j (r + k) (λ q. omega arith)) (p.index_high j (omega arith));
      rank_in = λ z low a b. ⊎_elim
          (λ (q : m (rank z) ≡ r + k + 1). let z' : z ≡ n (index (r + k + 1)) = sym (ranked m c ix z low).1 ∙ ap (λ (v : ℕ). m (index v)) q ∙ sym e in
          rw (eq-eqb z (n (index (r + k + 1))) z') (omega arith))
          (λ (q : m (rank z) ≡ r + k + 1 → ⊥). rw (ne_eqb z (n (index (r + k + 1))) (far z q)) (p.rank_in z low a (omega arith)))
          (same? (m (rank z)) (r + k + 1));
      rank_low = λ z low a. rw (ne_eqb z (n (index (r + k + 1))) (far z (λ q. omega arith))) (p.rank_low z low a);
      rank_high = λ z low a. rw (ne_eqb z (n (index (r + k + 1))) (far z (λ q. omega arith))) (p.rank_high z low (omega arith));
      rows = p.rows;
      items = p.items;
      roots = p.roots;
    }

length_shift : (ws : List ℕ) (sh : Shape) (r k : ℕ) → length (shift_w ws sh r k) ≡ length ws
unfolding shift_w
length_shift ws sh r zero = refl
length_shift ws sh r (suc k) = length_writes (shift_w ws sh r k) sh (shift_p (load (shift_w ws sh r k) sh) (r + k)) ∙ length_shift ws sh r k

pub shift_books : (ws : List ℕ) (sh : Shape) (r k : ℕ) → total sh ≤ length ws → Books ws (shift_w ws sh r k) sh
unfolding shift_w
shift_books ws sh r zero h = books_none ws sh
shift_books ws sh r (suc k) h =
    books_then ws (shift_w ws sh r k) _ sh (shift_books ws sh r k h)
    (books_writes (shift_w ws sh r k) sh (omega (arith, length_shift ws sh r k)) (shift_p (load (shift_w ws sh r k) sh) (r + k)) (inr (inl refl), (inr (inl refl), tt)))

pub shifted : (ws : List ℕ) (sh : Shape) (r k : ℕ) → total sh ≤ length ws → Indexed (load ws sh) sh.rows → r + k < sh.rows → Shifted (load ws sh) (load (shift_w ws sh r k) sh) sh.rows r k
unfolding shift_w
shifted ws sh r zero h ix l = record {
  index_in = λ j a b. absurd (omega arith);
  index_low = λ j a. refl;
  index_high = λ j a. refl;
  rank_in = λ z low a b. absurd (omega arith);
  rank_low = λ z low a. refl;
  rank_high = λ z low a. refl;
  rows = λ z f. refl;
  items = λ z j f. refl;
  roots = λ f. refl;
}
shifted ws sh r (suc k) h ix l =
    let p = shifted ws sh r k h ix (omega arith) in
    let e : load (shift_w ws sh r k) sh (index (r + k + 1)) ≡ load ws sh (index (r + k + 1)) = p.index_high (r + k + 1) (omega arith) in
    let low = (ix.named (r + k + 1) (omega arith)).0 in
    let q = load_writes (shift_w ws sh r k) sh (omega (arith, length_shift ws sh r k)) (shift_p (load (shift_w ws sh r k) sh) (r + k))
    (in_index sh (r + k) (omega arith), (in_rank sh (load (shift_w ws sh r k) sh (index (r + k + 1))) (omega arith), tt)) in
    rw q (turn (load ws sh) (load (shift_w ws sh r k) sh) sh.rows r k ix l p)
