-- What a request does to a table, to the book and so to the state, with the claim and without it.
use Rattle.std.specs.Prelude.{◌≡◌, refl, Bool, List, [], ◌∷◌, ◌++◌, ℕ, ◌+◌, eqb}
use Rattle.std.proofs.Common.{ap, ◌∙◌, arith, ne_eqb}
use Rattle.codec.specs.Codec.{next_generation}
use Rattle.model.specs.Base.{put}
use Rattle.model.specs.State.{Handle, Slot.reserved, Slot.transfer_reserved, Slot.occupied, Lifecycle, Table, Object, Entry, Body, Book, Row, State, generation}
use Rattle.model.specs.Storage.{place, keep, keep_all, vacate, vacate_all, take_free, grow, detach}
use Rattle.model.specs.Change.{with_life}
use Rattle.model.specs.Request.{Answer}
use Rattle.model.specs.Book.{drop_id, swap_id}
use Rattle.model.specs.Decision.{Decision.accept}
use Rattle.model.specs.Step.{fill_all, restore_all}
use Rattle.noninterference.specs.Runs.{lowered, lower_answer}
use Rattle.noninterference.specs.Erase.{erase_slot, erase_table, erase_book, erase}
use Rattle.model.proofs.Tests.{bool}
use Rattle.noninterference.proofs.Basics.{lowered_next}
use Rattle.noninterference.proofs.Tables.{gen_erase, place_erase, keep_all_erase, vacate_erase, vacate_all_erase, take_free_erase, grow_erase, detach_erase, fill_all_erase, restore_all_erase}
use Rattle.noninterference.proofs.Rows.{drop_erase, swap_erase, append_erase}
use Rattle.noninterference.proofs.Alike.{Case, Alike, below}

module _ (x : Case) where
  abbrev s : State
  s = x.s

  abbrev s₀ : State
  s₀ = erase x.t x.es x.s

  abbrev T₀ : Table → Table
  T₀ = erase_table x.t x.es

  -- a table has become y here and y₀ there: a record, so that a use need not write the tables (of an equation they are not read off)
  pub record TableTwin (y y₀ : Table) : Type 0 where
    pub same : y₀ ≡ T₀ y

  pub untouched : (w : Table) → TableTwin w (T₀ w)
  untouched w = record { same = refl }

  pub and_then : {y y₀ : Table} (f : Table → Table) → TableTwin y y₀ → ((v : Table) → TableTwin (f v) (f (T₀ v))) → TableTwin (f y) (f y₀)
  and_then {y = y} f p q = record { same = ap f p.same ∙ (q y).same }

  pub vacated : (k : ℕ) (w : Table) → TableTwin (vacate x.z w k) (vacate x.z (T₀ w) k)
  vacated k w = record { same = vacate_erase x.t x.es x.z w k }

  pub all_vacated : (ks : List ℕ) (w : Table) → TableTwin (vacate_all x.z ks w) (vacate_all x.z ks (T₀ w))
  all_vacated ks w = record { same = vacate_all_erase x.t x.es x.z ks w }

  pub all_filled : (ks : List ℕ) (hs : List Handle) (w : Table) → TableTwin (fill_all x.z ks hs w) (fill_all x.z ks hs (T₀ w))
  all_filled ks hs w = record { same = fill_all_erase x.t x.es x.z ks hs w }

  pub all_restored : (xs : List Entry) (w : Table) → TableTwin (restore_all x.z xs w) (restore_all x.z xs (T₀ w))
  all_restored xs w = record { same = restore_all_erase x.t x.es x.z xs w }

  pub grown : (ps fs : List ℕ) (w : Table) → TableTwin (grow x.z ps fs w) (grow x.z ps fs (T₀ w))
  grown ps fs w = record { same = grow_erase x.t x.es x.z ps fs w }

  pub detached : (p : ℕ) (w : Table) → TableTwin (detach x.z w p) (detach x.z (T₀ w) p)
  detached p w = record { same = detach_erase x.t x.es x.z w p }

  pub aged : {y y₀ : Table} (l : Lifecycle) → TableTwin y y₀ → TableTwin (with_life y l) (with_life y₀ l)
  aged l p = record { same = ap (λ (v : Table). with_life v l) p.same }

  -- a handle renewed in its slot
  pub renews : (k : ℕ) (h : Handle) (w : Table) → TableTwin
      (place x.z w k (occupied (next_generation (generation (w.slots k))) h))
      (place x.z (T₀ w) k (occupied (next_generation (generation ((T₀ w).slots k))) h))
  renews k h w = record {
    same = ap (λ (g : ℕ). place x.z (T₀ w) k (occupied (next_generation g) h)) (gen_erase x.t x.es k (w.slots k))
        ∙ place_erase x.t x.es x.z w k (occupied (next_generation (generation (w.slots k))) h);
  }

  -- marks of the next id, which is not the claim's
  pub fresh : s.book.next ≡ x.t → ⊥
  fresh e = omega (arith, below x)

  move_same : (k g : ℕ) → transfer_reserved g s₀.book.next ≡ erase_slot x.t x.es k (transfer_reserved g s.book.next)
  move_same k g = rw (ne_eqb s.book.next x.t fresh)

  pub all_marked : (ks : List ℕ) (w : Table) → TableTwin
      (keep_all x.z (λ g. transfer_reserved g s.book.next) ks w) (keep_all x.z (λ g. transfer_reserved g s₀.book.next) ks (T₀ w))
  all_marked ks w = record { same = keep_all_erase x.t x.es x.z (λ g. transfer_reserved g s.book.next) (λ g. transfer_reserved g s₀.book.next) move_same ks w }

  pub marked : (k : ℕ) (w : Table) → TableTwin
      (keep x.z (λ g. transfer_reserved g s.book.next) w k) (keep x.z (λ g. transfer_reserved g s₀.book.next) (T₀ w) k)
  marked k w = all_marked (k ∷ []) w

  pub reserved_first : (n : ℕ) (w : Table) → TableTwin
      (take_free x.z n (λ g. reserved g s.book.next) w) (take_free x.z n (λ g. reserved g s₀.book.next) (T₀ w))
  reserved_first n w = record {
    same = take_free_erase x.t x.es x.z n _ _ (λ k g. refl) w;
  }

  -- the book has become k here and k₀ there, a record for the same reason
  pub record BookTwin (k k₀ : Book) : Type 0 where
    pub same : k₀ ≡ erase_book x.t k

  pub same_book : BookTwin s.book s₀.book
  same_book = record { same = refl }

  abbrev pub with_rows : List Row → Book
  with_rows rs = record { rows = rs; capacity = s.book.capacity; next = s.book.next }

  abbrev pub with-rows₀ : List Row → Book
  with-rows₀ rs = record { rows = rs; capacity = s₀.book.capacity; next = s₀.book.next }

  pub added : {rs rs₀ : List Row} (a : Body) → BookTwin (with_rows rs) (with-rows₀ rs₀) → BookTwin
      (record { rows = rs ++ (record { id = s.book.next; body = a } ∷ []); capacity = s.book.capacity; next = s.book.next + 1 })
      (record { rows = rs₀ ++ (record { id = s₀.book.next; body = a } ∷ []); capacity = s₀.book.capacity; next = s₀.book.next + 1 })
  added {rs} a p = record {
    same = ap (λ (k : Book). record { rows = k.rows ++ (record { id = s₀.book.next; body = a } ∷ []); capacity = s.book.capacity; next = s₀.book.next + 1 }) p.same
        ∙ rw (append_erase x.t rs (record { id = s.book.next; body = a }) fresh, lowered_next x.t s.book.next (below x));
  }

  pub dropped : {rs rs₀ : List Row} (i : ℕ) → (i ≡ x.t → ⊥) → BookTwin (with_rows rs) (with-rows₀ rs₀)
      → BookTwin (with_rows (drop_id i rs)) (with-rows₀ (drop_id (lowered x.t i) rs₀))
  dropped {rs} i n p = record {
    same = ap (λ (k : Book). with-rows₀ (drop_id (lowered x.t i) k.rows)) p.same ∙ ap with-rows₀ (drop_erase x.t i n rs);
  }

  pub swapped : (i : ℕ) (a : Body) → (i ≡ x.t → ⊥)
      → BookTwin (with_rows (swap_id i a s.book.rows)) (with-rows₀ (swap_id (lowered x.t i) a s₀.book.rows))
  swapped i a n = record {
    same = ap with-rows₀ (swap_erase x.t i n a s.book.rows);
  }

  -- accepted with the tables f, the objects o, the frames fs and the book k
  abbrev Becomes : (ℕ → Table) → (ℕ → Object) → List ℕ → Book → State
  Becomes f o fs k = record {
    table_count = s.table_count;
    tables = f;
    object_count = s.object_count;
    objects = o;
    frame_count = s.frame_count;
    frames = fs;
    book = k;
  }

  pub accepts : {e : Bool} {f f₀ : ℕ → Table} {o o₀ : ℕ → Object} {fs : List ℕ} {k k₀ : Book} {a a₀ : Answer}
      → ((c : ℕ) → TableTwin (f c) (f₀ c)) → BookTwin k k₀ → o₀ ≡ o → a₀ ≡ lower_answer x.t a
      → Alike x e (accept (Becomes f o fs k) a) (accept (Becomes f₀ o₀ fs k₀) a₀)
  accepts {fs = fs} p q r l = record {
    twin = λ w. λ i. accept (Becomes (λ c. (p c).same i) (r i) fs (q.same i)) (l i);
  }

  -- nothing changes
  pub reads : {e : Bool} {a a₀ : Answer} → a₀ ≡ lower_answer x.t a → Alike x e (accept s a) (accept s₀ a₀)
  reads l = accepts (λ c. untouched (s.tables c)) same_book refl l

  -- one table changes
  pub put_twin : {f f₀ : ℕ → Table} (c : ℕ) {y y₀ : Table} → ((d : ℕ) → TableTwin (f d) (f₀ d)) → TableTwin y y₀
      → (d : ℕ) → TableTwin (put f c y d) (put f₀ c y₀ d)
  put_twin c p q d = bool (eqb d c) (λ e. rw e q) (λ e. rw e (p d))

  pub changes : {e : Bool} (c : ℕ) {y y₀ : Table} {o o₀ : ℕ → Object} {fs : List ℕ} {k k₀ : Book} {a a₀ : Answer}
      → TableTwin y y₀ → BookTwin k k₀ → o₀ ≡ o → a₀ ≡ lower_answer x.t a
      → Alike x e (accept (Becomes (put s.tables c y) o fs k) a) (accept (Becomes (put s₀.tables c y₀) o₀ fs k₀) a₀)
  changes c p = accepts (put_twin c (λ d. untouched (s.tables d)) p)
