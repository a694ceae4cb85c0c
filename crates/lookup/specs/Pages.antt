-- The words of a page in an answer: what the code's loops say. Assumes nothing.
use Rattle.std.specs.Prelude.{◌≡◌, List, [], ◌∷◌, ◌++◌, ℕ, ◌+◌, ◌*◌, ◌<◌, length, get_or, take}
use Rattle.std.proofs.Math.Path.{refl, sym, ap}
use Rattle.std.proofs.Common.{◌∙◌, append-nil, append_assoc, arith, add-one, take-suc, length-take-le}
use Rattle.request.specs.Answers.{puts}
use Rattle.answer.specs.Does.{puts_append}
use Rattle.lookup.specs.declared.SnapshotEntry.{SnapshotEntry}
use Rattle.lookup.specs.Scan.{no_entry, entry_words, entry_list}

entry_last : (xs : List SnapshotEntry) (x : SnapshotEntry) → entry_list (xs ++ (x ∷ [])) ≡ entry_list xs ++ entry_words x
entry_last [] x = append-nil (entry_words x)
entry_last (y ∷ xs) x = ap (λ (l : List ℕ). entry_words y ++ l) (entry_last xs x) ∙ sym (append_assoc (entry_words y) (entry_list xs) (entry_words x))

entry_length : (xs : List SnapshotEntry) → length (entry_list xs) ≡ length xs * 5
entry_length [] = refl
entry_length (x ∷ xs) = omega (arith, entry_length xs)

-- `put_entries`
module _ (os : List ℕ) (base : ℕ) (es : List SnapshotEntry) where
  pub entries_more : (k : ℕ) (u v : List ℕ) → k < length es → u ≡ puts os base 5 (entry_list (take k es)) → v ≡ puts u base (5 + k * 5) (entry_words (get_or es k no_entry))
      → v ≡ puts os base 5 (entry_list (take (k + 1) es))
  entries_more k u v h p q =
      let n : length (entry_list (take k es)) ≡ k * 5 = entry_length (take k es) ∙ ap (λ (x : ℕ). x * 5) (length-take-le k es (omega arith)) in
      let x : SnapshotEntry = get_or es k no_entry in
      q ∙ ap (λ (l : List ℕ). puts l base (5 + k * 5) (entry_words x)) p
      ∙ ap (λ (j : ℕ). puts (puts os base 5 (entry_list (take k es))) base (5 + j) (entry_words x)) (sym n)
      ∙ sym (puts_append os base 5 (entry_list (take k es)) (entry_words x))
      ∙ ap (puts os base 5) (sym (entry_last (take k es) x))
      ∙ ap (λ (l : List SnapshotEntry). puts os base 5 (entry_list l)) (sym (take-suc es k no_entry h))
      ∙ ap (λ (j : ℕ). puts os base 5 (entry_list (take j es))) (sym (add-one k))
