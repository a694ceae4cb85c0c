-- What a memory shows at each kind of address if in range it has a state's words. Assumes nothing.
use Rattle.std.specs.Prelude.{◌≡◌, ℕ, suc, ◌+◌, ◌*◌, ◌<◌}
use Rattle.std.proofs.Math.Path.{ap}
use Rattle.std.proofs.Common.{◌∙◌}
use native.Mathlib.Omega.{arith}
use Rattle.std.proofs.Math.ListN.{get_or}
use Rattle.model.specs.Base.{nth}
use Rattle.model.specs.State.{State}
use Rattle.layout.specs.Layout.{Addr, Mem, In, in_root, in_head, in_entry, in_owner, in_cell_law, in_object, in_index, in_rank, in_row, in_item, root, head, entry, owner, group, cell, object, index, rank, row, item}
use Rattle.layout.specs.Sizes.{page_size, batch_max, root_size, head_size, entry_size, slot_size, object_size, block_size}
use Rattle.representation.specs.Represents.{free_in}
use Rattle.representation.specs.Unique.{shape_for}
use Rattle.written.specs.Words.{entries_before, root_words, head_words, page_at, page_words, owner_of, owner_word, cell_words, object_words, words_of, block_words, word_at}
use Rattle.written.proofs.Entries.{table_at_law, page_at_law, entry_low}

abbrev pub Shows : State → Mem → Type 0
Shows s m = (a : Addr) → In (shape_for s) a → m a ≡ word_at s a

module _ (s : State) (m : Mem) (shows : Shows s m) where
  pub at_root : (f : ℕ) → f < root_size → m (root f) ≡ get_or (root_words s) f 0
  unfolding shape_for word_at
  at_root f h = shows (root f) (in_root (shape_for s) f h)

  pub at_head : (b f : ℕ) → b < s.table_count → f < head_size → m (head b f) ≡ get_or (head_words (s.tables b) (entries_before s b)) f 0
  unfolding shape_for word_at
  at_head b f h i = shows (head b f) (in_head (shape_for s) b f h i)

  pub at_entry : (b p f : ℕ) → b < s.table_count → p < (s.tables b).limit → f < entry_size → m (entry (entries_before s b + p) f) ≡ get_or (page_words (s.tables b) p) f 0
  unfolding shape_for word_at
  at_entry b p f h i l =
      shows (entry (entries_before s b + p) f) (in_entry (shape_for s) (entries_before s b + p) f (entry_low s b p h i) l)
      ∙ ap (λ (c : ℕ). get_or (page_words (s.tables c) (page_at s (entries_before s b + p))) f 0) (table_at_law s b p h i)
      ∙ ap (λ (q : ℕ). get_or (page_words (s.tables b) q) f 0) (page_at_law s b p h i)

  pub at_owner : (f : ℕ) → f < s.frame_count → m (owner f) ≡ owner_word s f
  unfolding shape_for word_at
  at_owner f h = shows (owner f) (in_owner (shape_for s) f h)

  pub at_sixteen : (g : ℕ) → g * 16 < s.frame_count → m (group 0 g) ≡ free_in s 16 g
  unfolding shape_for word_at
  at_sixteen g h = shows (group 0 g) (record { xs = omega arith; ys = omega arith; fs = omega arith })

  pub at_hundred : (g : ℕ) → g * 256 < s.frame_count → m (group 1 g) ≡ free_in s 256 g
  unfolding shape_for word_at
  at_hundred g h = shows (group 1 g) (record { xs = omega arith; ys = omega arith; fs = omega arith })

  pub at_thousand : (g : ℕ) → g * 4096 < s.frame_count → m (group 2 g) ≡ free_in s 4096 g
  unfolding shape_for word_at
  at_thousand g h = shows (group 2 g) (record { xs = omega arith; ys = omega arith; fs = omega arith })

  pub at_cell : (f j i : ℕ) → f < s.frame_count → j < page_size → i < slot_size → m (cell f j i) ≡ get_or (cell_words s (owner_of s f) j) i 0
  unfolding shape_for word_at
  at_cell f j i h k l = shows (cell f j i) (in_cell_law (shape_for s) f j i h k l)

  pub at_object : (o f : ℕ) → o < s.object_count → f < object_size → m (object o f) ≡ get_or (object_words (s.objects o)) f 0
  unfolding shape_for word_at
  at_object o f h i = shows (object o f) (in_object (shape_for s) o f h i)

  pub at_index : (i : ℕ) → i < s.book.capacity → m (index i) ≡ i
  unfolding shape_for word_at
  at_index i h = shows (index i) (in_index (shape_for s) i h)

  pub at_rank : (i : ℕ) → i < s.book.capacity → m (rank i) ≡ i
  unfolding shape_for word_at
  at_rank i h = shows (rank i) (in_rank (shape_for s) i h)

  pub at_row : (r f : ℕ) → r < s.book.capacity → f < block_size → m (row r f) ≡ get_or (words_of (block_words 0) (nth s.book.rows r)) f 0
  unfolding shape_for word_at
  at_row r f h i = shows (row r f) (in_row (shape_for s) r f h i)

  pub at_item : (r j f : ℕ) → r < s.book.capacity → j < batch_max → f < block_size → m (item r j f) ≡ get_or (words_of (block_words (suc j)) (nth s.book.rows r)) f 0
  unfolding shape_for word_at
  at_item r j f h i l = shows (item r j f) (in_item (shape_for s) r j f h i l)
