-- What the functions' bodies and loops go by. Assumes nothing.
use Rattle.std.specs.Prelude.{◌≡◌, Bool, ◌&&◌, List, ◌++◌, ℕ, ◌+◌, length, leb}
use Rattle.std.proofs.Common.{sym, ap, ◌∙◌, add-one}
use Rattle.layout.specs.declared.Shape.{Shape}
use Rattle.layout.specs.Layout.{Mem, total, load}
use Rattle.counts.specs.Found.{gather, in_book, counts_b, OffObjects, book_same}
use Rattle.counts.specs.Shift.{unit, shifted, shifted_append, shifted_off}
use Rattle.counts.specs.Used.{top_of, top_append}

-- the handles of a list counted, and how far their objects reach
abbrev pub Noted : List ℕ → List ℕ → Shape → ℕ → ℕ → List ℕ → Type 0
Noted ws vs sh t r os = (vs ≡ shifted ws sh unit os) × (r ≡ top_of sh.objects t os)

-- a loop over lists that do not depend on the objects
module _ (sh : Shape) (d : ℕ) (f : Mem → ℕ → List ℕ) (same : (m n : Mem) → OffObjects m n → (k : ℕ) → f n k ≡ f m k) where
  pub turn_more : (ws vs us : List ℕ) (k : ℕ) → vs ≡ shifted ws sh d (gather k (f (load ws sh))) → us ≡ shifted vs sh d (f (load vs sh) k)
      → us ≡ shifted ws sh d (gather (k + 1) (f (load ws sh)))
  turn_more ws vs us k a b =
      let os : List ℕ = gather k (f (load ws sh)) in
      let e : f (load vs sh) k ≡ f (load ws sh) k = rw a (same (load ws sh) (load (shifted ws sh d os) sh) (shifted_off ws sh d os) k) in
      b ∙ ap (λ (l : List ℕ). shifted vs sh d l) e ∙ ap (λ (w : List ℕ). shifted w sh d (f (load ws sh) k)) a ∙ sym (shifted_append ws sh d os (f (load ws sh) k)) ∙ rw add-one

-- the same loop over rows or items, which tells how far their objects reach
module _ (sh : Shape) (f : Mem → ℕ → List ℕ) (same : (m n : Mem) → OffObjects m n → (k : ℕ) → f n k ≡ f m k) where
  pub noted_more : (ws vs us : List ℕ) (t u r k : ℕ) → Noted ws vs sh t u (gather k (f (load ws sh))) → Noted vs us sh u r (f (load vs sh) k) → Noted ws us sh t r (gather (k + 1) (f (load ws sh)))
  noted_more ws vs us t u r k a b =
      let os : List ℕ = gather k (f (load ws sh)) in
      let e : f (load vs sh) k ≡ f (load ws sh) k = rw a.0 (same (load ws sh) (load (shifted ws sh unit os) sh) (shifted_off ws sh unit os) k) in (
        turn_more sh unit f same ws vs us k a.0 b.0,
        b.1 ∙ ap (λ (l : List ℕ). top_of sh.objects u l) e ∙ ap (λ (v : ℕ). top_of sh.objects v (f (load ws sh) k)) a.1 ∙ sym (top_append sh.objects t os (f (load ws sh) k)) ∙ rw add-one,
      )

-- the handles of a list, then the rows
pub rows_by : (ws vs us : List ℕ) (sh : Shape) (d : ℕ) (os : List ℕ) → vs ≡ shifted ws sh d os → us ≡ shifted vs sh d (in_book (load vs sh) sh) → us ≡ shifted ws sh d (os ++ in_book (load ws sh) sh)
rows_by ws vs us sh d os a b =
    let e : in_book (load vs sh) sh ≡ in_book (load ws sh) sh = rw a (book_same (load ws sh) (load (shifted ws sh d os) sh) (shifted_off ws sh d os) sh) in
    b ∙ ap (λ (l : List ℕ). shifted vs sh d l) e ∙ ap (λ (w : List ℕ). shifted w sh d (in_book (load ws sh) sh)) a ∙ sym (shifted_append ws sh d os (in_book (load ws sh) sh))

-- the answer: there are words enough, and the counts are right
unfoldable pub counts_in : List ℕ → Shape → Bool
counts_in ws sh = leb (total sh) (length ws) && counts_b (load ws sh) sh
