-- What the functions that open a claim, and those of the request prepare consumption, do to the words. Assumes nothing.
use Rattle.std.specs.Prelude.{List, [], ◌∷◌, ℕ, zero, suc, eqb}
use Rattle.words.specs.Pick.{pick}
use Rattle.authority.specs.Rights.{contains}
use Rattle.layout.specs.declared.Shape.{Shape}
use Rattle.layout.specs.Layout.{Mem, root, object, item, load, Write, Write.at, writes}
use Rattle.layout.specs.Fields.{root_next_id, object_koid, object_kind, item_operation, item_moved, item_object, item_rights, item_flags, item_granted}
use Rattle.layout.specs.Values.{kind_claim, operation_move}
use Rattle.storage.specs.Ops.{move_w}
use Rattle.book.specs.Ops.{row_left, id_refusal, spare, open_w}
use Rattle.answer.specs.Does.{Both, both, answered, refuse_r}
use Rattle.lookup.specs.declared.PreparedHandle.{PreparedHandle}
use Rattle.lookup.specs.View.{table_refusal, open_of}
use Rattle.lookup.specs.Read.{on_opened}

-- ---- a claim

-- the words of a moved handle in item j of the row in place x: that it is a move, its slot, the handle, the rights that its receiver gets
abbrev pub moved_p : ℕ → ℕ → PreparedHandle → ℕ → List Write
moved_p x j h r =
    at (item x j item_operation) operation_move
    ∷ at (item x j item_moved) h.slot
    ∷ at (item x j item_object) h.object
    ∷ at (item x j item_rights) h.rights
    ∷ at (item x j item_flags) h.flags
    ∷ at (item x j item_granted) r
    ∷ []

unfoldable pub moved_w : List ℕ → Shape → ℕ → ℕ → PreparedHandle → ℕ → List ℕ
moved_w ws sh x j h r = writes ws sh (moved_p x j h r)

-- the slot that item j moves is TransferReserved by position j of the row in place x; "A Copy-only claim marks no slot"
unfoldable pub mark_item_w : List ℕ → Shape → ℕ → ℕ → ℕ → List ℕ
mark_item_w ws sh b x j = pick (eqb (load ws sh (item x j item_operation)) operation_move) (move_w ws sh b (load ws sh (item x j item_moved)) x j) ws

-- so for n items from j on
unfoldable pub marked_w : List ℕ → Shape → ℕ → ℕ → ℕ → ℕ → List ℕ
marked_w ws sh b x j zero = ws
marked_w ws sh b x j (suc n) = marked_w (mark_item_w ws sh b x j) sh b x (suc j) n

-- a claim of table b opens in the place that is free, where its n items stand, and marks the slots that they move
unfoldable pub claim_w : List ℕ → Shape → ℕ → ℕ → List ℕ
claim_w ws sh b n = marked_w (open_w ws sh kind_claim b n) sh b (spare (load ws sh)) 0 n

-- ---- prepare consumption

-- "Consumption: 16, 1, 2 or 3, 5, 4, 2, 12": from 5 on, of the handle found; 0 for none
unfoldable pub consume_refusal : Mem → PreparedHandle → ℕ → ℕ → ℕ → ℕ
consume_refusal m h r kind koid =
    pick (contains h.rights r)
    (pick (eqb (m (object h.object object_kind)) kind)
    (pick (eqb (m (object h.object object_koid)) koid) (id_refusal m)
    2) 4) 5

unfoldable pub consumed_r : List ℕ → List ℕ → Shape → ℕ → ℕ → ℕ → ℕ → ℕ → PreparedHandle → Both
consumed_r ws os sh base b r kind koid h =
    let n : ℕ = consume_refusal (load ws sh) h r kind koid in
    pick (eqb n 0)
    (both (claim_w (moved_w ws sh (spare (load ws sh)) 0 h h.rights) sh b 1) (answered os base (0 ∷ load ws sh (root root_next_id) ∷ [])))
    (refuse_r ws os base n)

unfoldable pub consumption_r : List ℕ → List ℕ → Shape → ℕ → ℕ → ℕ → ℕ → ℕ → ℕ → Both
consumption_r ws os sh base b v r kind koid =
    let n : ℕ = table_refusal (load ws sh) sh b in
    pick (eqb n 0)
    (pick (row_left (load ws sh) sh)
    (on_opened (open_of (load ws sh) sh b v) (λ n. refuse_r ws os base n) (λ h. consumed_r ws os sh base b r kind koid h))
    (refuse_r ws os base 1))
    (refuse_r ws os base n)
