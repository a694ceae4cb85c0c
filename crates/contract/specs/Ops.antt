-- The op of a request. Assumes nothing.
use Rattle.std.specs.Prelude.{ℕ}
use Rattle.model.specs.Request.{Request, Request.new_object, Request.duplicate, Request.release_parcel, Request.retire_object, Request.reserve, Request.trim, Request.abort, Request.publish, Request.get_info, Request.resolve, Request.replace, Request.close, Request.scan_handles, Request.prepare_transfer, Request.prepare_consumption, Request.rollback, Request.commit, Request.direct_commit, Request.direct_rollback, Request.remove_stopping_owner, Request.teardown_start, Request.teardown_step, Request.teardown_finish, Request.take_empty_page, Request.make_plan, Request.use_plan, Request.drop_plan, Request.judge_transfer}
use Rattle.format.specs.Ops.{op_new_object, op_duplicate, op_release_parcel, op_retire_object, op_reserve, op_trim, op_abort, op_publish, op_get_info, op_resolve, op_replace, op_close, op_scan_handles, op_prepare_transfer, op_prepare_consumption, op_rollback, op_commit, op_direct_commit, op_direct_rollback, op_remove_stopping_owner, op_teardown_start, op_teardown_step, op_teardown_finish, op_take_empty_page, op_make_plan, op_use_plan, op_drop_plan, op_judge_transfer}

-- docs/formats.md, "Ops": the number of a request's op
abbrev pub op_of : Request → ℕ
op_of (new_object o r f) = op_new_object
op_of (duplicate b v r) = op_duplicate
op_of (release_parcel i) = op_release_parcel
op_of (retire_object o) = op_retire_object
op_of (reserve b n) = op_reserve
op_of (trim i n) = op_trim
op_of (abort i) = op_abort
op_of (publish i is) = op_publish
op_of (get_info b v) = op_get_info
op_of (resolve b v r k) = op_resolve
op_of (replace b v r) = op_replace
op_of (close b v) = op_close
op_of (scan_handles b c) = op_scan_handles
op_of (prepare_transfer b route o k qs) = op_prepare_transfer
op_of (prepare_consumption b v r k o) = op_prepare_consumption
op_of (rollback i) = op_rollback
op_of (commit i) = op_commit
op_of (direct_commit i j) = op_direct_commit
op_of (direct_rollback i j) = op_direct_rollback
op_of (remove_stopping_owner b c) = op_remove_stopping_owner
op_of (teardown_start b) = op_teardown_start
op_of (teardown_step b) = op_teardown_step
op_of (teardown_finish b) = op_teardown_finish
op_of (take_empty_page b) = op_take_empty_page
op_of (make_plan b n) = op_make_plan
op_of (use_plan i) = op_use_plan
op_of (drop_plan i) = op_drop_plan
op_of (judge_transfer b route o k qs) = op_judge_transfer
