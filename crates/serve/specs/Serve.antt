-- The request at a place of a list, over words: by its op. Assumes nothing.
use Rattle.std.specs.Prelude.{List, ◌≡◌, ℕ, eqb}
use Rattle.words.specs.Pick.{pick}
use Rattle.format.specs.Fields.{table_field, object_field, count_field, value_field, rights_field, flags_field, id_field, destination_field, kind_field, koid_field, cursor_field}
use Rattle.format.specs.Ops.{op_new_object, op_duplicate, op_release_parcel, op_retire_object, op_reserve, op_trim, op_abort, op_publish, op_get_info, op_resolve, op_replace, op_close, op_scan_handles, op_prepare_transfer, op_prepare_consumption, op_rollback, op_commit, op_direct_commit, op_direct_rollback, op_remove_stopping_owner, op_teardown_start, op_teardown_step, op_teardown_finish, op_take_empty_page, op_make_plan, op_use_plan, op_drop_plan, op_judge_transfer}
use Rattle.layout.specs.declared.Shape.{Shape}
use Rattle.request.specs.Place.{field_of, op_at, end_at, count_at}
use Rattle.answer.specs.Does.{Both, both}
use Rattle.parcel.specs.Ops.{new_object_r, duplicate_r, release_r, retire_r}
use Rattle.reserve.specs.Ops.{reserve_r}
use Rattle.parcel.specs.Publishing.{ids_at, publish_r}
use Rattle.info.specs.Info.{get_info_r}
use Rattle.lookup.specs.Read.{resolve_r}
use Rattle.close.specs.Replace.{replace_r}
use Rattle.close.specs.Close.{close_r}
use Rattle.lookup.specs.Scan.{scan_r}
use Rattle.transfer.specs.Ops.{consumption_r}
use Rattle.transfer.specs.Preparing.{transfer_at}
use Rattle.transfer.specs.Judging.{judging_at}
use Rattle.claim.specs.EndsOps.{trim_r, abort_r}
use Rattle.claim.specs.Ops.{rollback_r, commit_r, direct_commit_r, direct_rollback_r}
use Rattle.teardown.specs.Ops.{stopping_r, teardown_start_r, teardown_step_r, teardown_finish_r}
use Rattle.detach.specs.Ops.{take_page_r}
use Rattle.plan.specs.Ops.{make_plan_r, use_plan_r, drop_plan_r}

unfoldable pub serve_r : ℕ → List ℕ → List ℕ → Shape → List ℕ → ℕ → ℕ → Both
serve_r op ws os sh list at base =
    pick (eqb op op_new_object) (new_object_r ws os sh base (field_of list at object_field) (field_of list at rights_field) (field_of list at flags_field))
    (pick (eqb op op_duplicate) (duplicate_r ws os sh base (field_of list at table_field) (field_of list at value_field) (field_of list at rights_field))
    (pick (eqb op op_release_parcel) (release_r ws os sh base (field_of list at id_field))
    (pick (eqb op op_retire_object) (retire_r ws os sh base (field_of list at object_field))
    (pick (eqb op op_reserve) (reserve_r ws os sh base (field_of list at table_field) (field_of list at count_field))
    (pick (eqb op op_trim) (trim_r ws os sh base (field_of list at id_field) (field_of list at count_field))
    (pick (eqb op op_abort) (abort_r ws os sh base (field_of list at id_field))
    (pick (eqb op op_publish) (publish_r ws os sh base (field_of list at id_field) (ids_at list (end_at list at) (count_at list at)))
    (pick (eqb op op_get_info) (get_info_r ws os sh base (field_of list at table_field) (field_of list at value_field))
    (pick (eqb op op_resolve) (resolve_r ws os sh base (field_of list at table_field) (field_of list at value_field) (field_of list at rights_field) (field_of list at kind_field))
    (pick (eqb op op_replace) (replace_r ws os sh base (field_of list at table_field) (field_of list at value_field) (field_of list at rights_field))
    (pick (eqb op op_close) (close_r ws os sh base (field_of list at table_field) (field_of list at value_field))
    (pick (eqb op op_scan_handles) (scan_r ws os sh base (field_of list at table_field) (field_of list at cursor_field))
    (pick (eqb op op_prepare_transfer) (transfer_at ws os sh base list at)
    (pick (eqb op op_prepare_consumption) (consumption_r ws os sh base (field_of list at table_field) (field_of list at value_field) (field_of list at rights_field) (field_of list at kind_field) (field_of list at koid_field))
    (pick (eqb op op_rollback) (rollback_r ws os sh base (field_of list at id_field))
    (pick (eqb op op_commit) (commit_r ws os sh base (field_of list at id_field))
    (pick (eqb op op_direct_commit) (direct_commit_r ws os sh base (field_of list at id_field) (field_of list at destination_field))
    (pick (eqb op op_direct_rollback) (direct_rollback_r ws os sh base (field_of list at id_field) (field_of list at destination_field))
    (pick (eqb op op_remove_stopping_owner) (stopping_r ws os sh base (field_of list at table_field) (field_of list at cursor_field))
    (pick (eqb op op_teardown_start) (teardown_start_r ws os sh base (field_of list at table_field))
    (pick (eqb op op_teardown_step) (teardown_step_r ws os sh base (field_of list at table_field))
    (pick (eqb op op_teardown_finish) (teardown_finish_r ws os sh base (field_of list at table_field))
    (pick (eqb op op_take_empty_page) (take_page_r ws os sh base (field_of list at table_field))
    (pick (eqb op op_make_plan) (make_plan_r ws os sh base (field_of list at table_field) (field_of list at count_field))
    (pick (eqb op op_use_plan) (use_plan_r ws os sh base (field_of list at id_field))
    (pick (eqb op op_drop_plan) (drop_plan_r ws os sh base (field_of list at id_field))
    (pick (eqb op op_judge_transfer) (judging_at ws os sh base list at)
    (both ws os))))))))))))))))))))))))))))

abbrev pub one_r : List ℕ → List ℕ → Shape → List ℕ → ℕ → ℕ → Both
one_r ws os sh list at base = serve_r (op_at list at) ws os sh list at base

-- by a known op
pub at_op : (op k : ℕ) (ws os : List ℕ) (sh : Shape) (list : List ℕ) (at base : ℕ) (x : Both) → op ≡ k → x ≡ serve_r k ws os sh list at base → x ≡ serve_r op ws os sh list at base
at_op op k ws os sh list at base x e p = cc
