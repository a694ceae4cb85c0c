-- A page that is detached with the head's words stored last. Assumes nothing.
use Rattle.std.specs.Prelude.{◌≡◌, refl, List, [], ◌∷◌, ℕ, ◌+◌}
use Rattle.std.proofs.Common.{ap, ◌∙◌}
use Rattle.layout.specs.declared.Shape.{Shape}
use Rattle.layout.specs.Layout.{Mem, head, entry, load, save, Write.at, writes}
use Rattle.layout.specs.Fields.{head_epoch, head_first_empty, head_first_detached, head_first_entry, entry_frame, entry_next}
use Rattle.head.specs.declared.TableHead.{TableHead}
use Rattle.head.specs.Head.{head_at, empty_by, detached_by, next_epoch, detached_p}
use Rattle.head.specs.Apart.{save_off, load_other}
use Rattle.storage.specs.Ops.{up, leave_w}
use Rattle.storage.specs.Late.{unlinked_w, first_without, unlinked_keeps, leave_by}
use Rattle.detach.specs.Ops.{join_detached_w}

-- a page that left the empty pages' order and is detached, with the head's words last
detached_last : (ws : List ℕ) (sh : Shape) (b e p x d n : ℕ) → load (save ws sh (head b head_first_empty) x) sh (head b head_first_entry) ≡ e → load (save ws sh (head b head_first_empty) x) sh (head b head_first_detached) ≡ d
    → load (save ws sh (head b head_first_empty) x) sh (head b head_epoch) ≡ n
    → join_detached_w (save ws sh (head b head_first_empty) x) sh b p
    ≡ writes (save (save ws sh (entry (e + p) entry_frame) 0) sh (entry (e + p) entry_next) d) sh (at (head b head_first_empty) x ∷ at (head b head_first_detached) (up p) ∷ at (head b head_epoch) (next_epoch n) ∷ [])
unfolding join_detached_w
detached_last ws sh b e p x d n q i j = rw (q, i, j)
    (ap (λ (w : List ℕ). save (save w sh (head b head_first_detached) (up p)) sh (head b head_epoch) (next_epoch n)) (save_off ws sh (head b head_first_empty) x (at (entry (e + p) entry_frame) 0 ∷ at (entry (e + p) entry_next) d ∷ []) (refl, (refl, tt))))

-- `join_detached`, by the head
pub joined_by : (ws : List ℕ) (sh : Shape) (b p : ℕ) (h : TableHead) → h ≡ head_at (load ws sh) b
    → join_detached_w (leave_w ws sh b p) sh b p
    ≡ writes (save (save (unlinked_w ws sh h.entry p) sh (entry (h.entry + p) entry_frame) 0) sh (entry (h.entry + p) entry_next) h.first_detached) sh
    (detached_p b (detached_by (empty_by h (first_without (load ws sh) h.entry p h.first_empty)) (up p)))
unfolding head_at
joined_by ws sh b p h i =
    let m : Mem = load ws sh in
    let e : ℕ = m (head b head_first_entry) in
    let z : ℕ = first_without m e p (m (head b head_first_empty)) in
    let v : List ℕ = unlinked_w ws sh e p in
    rw i
    (ap (λ (w : List ℕ). join_detached_w w sh b p) (leave_by ws sh b e p refl (m (head b head_first_empty)) refl)
    ∙ detached_last v sh b e p z (m (head b head_first_detached)) (m (head b head_epoch))
    (load_other v sh (head b head_first_empty) (head b head_first_entry) refl z ∙ unlinked_keeps ws sh b head_first_entry e p)
    (load_other v sh (head b head_first_empty) (head b head_first_detached) refl z ∙ unlinked_keeps ws sh b head_first_detached e p)
    (load_other v sh (head b head_first_empty) (head b head_epoch) refl z ∙ unlinked_keeps ws sh b head_epoch e p))
