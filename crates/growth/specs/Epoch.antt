-- A table's epoch advances: the words come to represent the state with the table so. Assumes nothing.
use Rattle.std.specs.Prelude.{◌≡◌, List, [], ◌∷◌, ℕ, zero, suc, ◌+◌, ◌%◌, ◌^◌, ◌<◌, length, eqb}
use Rattle.std.proofs.Math.Path.{refl, ap, fun_ext}
use Rattle.std.proofs.Common.{sym, ◌∙◌, inl, inr, arith, mod-lt, eq-eqb}
use Rattle.std.proofs.Math.Bool.{and-true}
use Rattle.model.specs.State.{till, State}
use Rattle.model.specs.Storage.{advance}
use Rattle.model.specs.Change.{with_table}
use Rattle.invariant.proofs.Orders.{recast}
use Rattle.layout.specs.declared.Shape.{Shape}
use Rattle.layout.specs.Layout.{Mem, head, load, Write.at, upd, in_head, length_writes, load_writes}
use Rattle.layout.specs.Fields.{head_epoch, slot_tag, slot_place, slot_position}
use Rattle.layout.specs.Sizes.{page_size}
use Rattle.representation.specs.Represents.{word_in, frame_of, slot_word, TableIs, FramesAre}
use Rattle.storage.specs.Sight.{Spot, Spot.hd, Spot.pg, Spot.sl, look, Put.to_head, put₁}
use Rattle.storage.specs.Slots.{Seen, see, unsee}
use Rattle.storage.specs.Kept.{owners_plans}
use Rattle.storage.specs.Whole.{fit_of, put_like}
use Rattle.storage.specs.Reps.{Held}
use Rattle.frames.specs.Paged.{Alone, paged_write}
use Rattle.frames.specs.Whole.{placed_paged, held_paged_marks}
use Rattle.growth.specs.Words.{advance_w}

pub length_advance : (ws : List ℕ) (sh : Shape) (b : ℕ) → length (advance_w ws sh b) ≡ length ws
unfolding advance_w
length_advance ws sh b = length_writes ws sh (at (head b head_epoch) ((load ws sh (head b head_epoch) + 1) % 2 ^ 64) ∷ [])

module _ (ws : List ℕ) (sh : Shape) (s : State) (h : Held ws sh s) (b : ℕ) (l : b < s.table_count) where
  abbrev x : ℕ
  x = (load ws sh (head b head_epoch) + 1) % 2 ^ 64

  abbrev n : Mem
  n = upd (load ws sh) (at (head b head_epoch) ((load ws sh (head b head_epoch) + 1) % 2 ^ 64))

  load_advance : load (advance_w ws sh b) sh ≡ upd (load ws sh) (at (head b head_epoch) ((load ws sh (head b head_epoch) + 1) % 2 ^ 64))
  unfolding advance_w
  load_advance = load_writes ws sh h.reps.shaped.room (at (head b head_epoch) ((load ws sh (head b head_epoch) + 1) % 2 ^ 64) ∷ [])
      (in_head sh b head_epoch (omega (arith, h.reps.memory.table_count)) (omega arith), tt)

  same_words : (fr j i : ℕ) → word_in n fr j i ≡ word_in (load ws sh) fr j i
  same_words zero j i = refl
  same_words (suc fr) j i = refl

  shows : look n b ≡ put₁ (look (load ws sh) b) (to_head head_epoch ((load ws sh (head b head_epoch) + 1) % 2 ^ 64))
  unfolding look
  shows = fun_ext go
    where
      go : (c : Spot) → look n b c ≡ put₁ (look (load ws sh) b) (to_head head_epoch ((load ws sh (head b head_epoch) + 1) % 2 ^ 64)) c
      go (hd i) = rw (eq-eqb b b refl, and-true (eqb i head_epoch))
      go (pg p i) = refl
      go (sl k i) = same_words (frame_of (load ws sh) b k) (k % page_size) i

  seen : Seen (load ws sh) (put₁ (look (load ws sh) b) (to_head head_epoch ((load ws sh (head b head_epoch) + 1) % 2 ^ 64))) (advance (s.tables b))
  unfolding look
  seen = let z : Seen (load ws sh) (look (load ws sh) b) (s.tables b) = see (load ws sh) b (s.tables b) (h.reps.memory.tables b l) in record {
    limit = z.limit;
    mask = z.mask;
    life = z.life;
    epoch = ap (λ (e : ℕ). (e + 1) % 2 ^ 64) z.epoch;
    size = z.size;
    frame = z.frame;
    high = z.high;
    busy = z.busy;
    slots = z.slots;
    free = z.free;
    free_count = z.free_count;
    empty = z.empty;
    detached = z.detached;
  }

  table_is : TableIs n b (advance (s.tables b))
  table_is = unsee (load ws sh) n b (advance (s.tables b)) (λ r. refl) (rw shows seen)

  frames_are : FramesAre n (with_table s b (advance (s.tables b)))
  frames_are = let q = h.reps.memory.frames in record {
    held = λ c p f k i e. q.held c p f k (rw (put_like (λ t. t.size) s.tables b (advance (s.tables b)) refl c) at i) (sym (put_like (λ t. (t.pages p).frame) s.tables b (advance (s.tables b)) refl c) ∙ e);
    free = q.free;
    sixteens = q.sixteens;
    hundreds = q.hundreds;
    thousands = q.thousands;
    count = q.count;
  }

  -- no table has a frame past the last
  alone : Alone (load ws sh) s b s.frame_count
  alone c k i = let t = h.reps.memory.tables c k in
      absurd (omega (arith, h.reps.memory.frame_count, (fit_of sh (load ws sh) s h.reps.memory h.placed c k).frames i.0 s.frame_count i.1 i.2))

  same_slot : (k i : ℕ) → slot_word n b k i ≡ slot_word (load ws sh) b k i
  same_slot k i = same_words (frame_of (load ws sh) b k) (k % page_size) i

  -- ADVANCE
  pub advance_held : Held (advance_w ws sh b) sh (with_table s b (advance (s.tables b)))
  advance_held = held_paged_marks ws (advance_w ws sh b) sh s h b l s.frame_count alone (length_advance ws sh b)
      (rw load_advance (paged_write b s.frame_count (load ws sh) (load ws sh) (λ a i. refl) (head b head_epoch) x (inr (inl (refl, refl, omega arith, omega arith)))))
      (advance (s.tables b)) (rw load_advance table_is) refl (rw load_advance (owners_plans (load ws sh) n (λ f. refl) (length s.book.rows))) s.frames (rw load_advance frames_are)
      (placed_paged s b (advance (s.tables b)) s.frames h.placed
      (let o = h.placed.sound b l in recast till (s.tables b) (s.tables b).free o (s.tables b).mask (s.tables b).life (((s.tables b).epoch + 1) % 2 ^ 64) (s.tables b).free (mod-lt ((s.tables b).epoch + 1) (omega arith)))
      (λ p f i e. h.placed.frames b p f l i e))
      (λ k e. (e, rw load_advance (same_slot k slot_tag), rw load_advance (same_slot k slot_place), rw load_advance (same_slot k slot_position)))
