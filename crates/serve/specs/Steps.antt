-- Each request does what the model's step does. Assumes nothing.
use Rattle.std.specs.Prelude.{◌≡◌, refl, List, ℕ, ◌≤◌}
use Rattle.std.proofs.Common.{sym, ◌∙◌, arith}
use Rattle.model.specs.State.{till, State}
use Rattle.format.specs.Fields.{table_field, object_field, count_field, value_field, rights_field, flags_field, id_field, destination_field, kind_field, koid_field, cursor_field}
use Rattle.format.specs.Ops.{op_judge_transfer, op_last}
use Rattle.layout.specs.declared.Shape.{Shape}
use Rattle.representation.specs.Represents.{Rep}
use Rattle.request.specs.Place.{field_of, op_at, count_at, end_at, request_of, request_at}
use Rattle.request.specs.Laws.{request_is}
use Rattle.answer.specs.Does.{Does}
use Rattle.info.proofs.Does.{get_info_does}
use Rattle.lookup.specs.Read.{resolve_does}
use Rattle.lookup.specs.Scanned.{scan_does}
use Rattle.close.specs.Close.{close_does}
use Rattle.close.specs.Replace.{replace_does}
use Rattle.detach.specs.Take.{take_page_does}
use Rattle.plan.specs.Made.{make_plan_does}
use Rattle.plan.specs.Used.{use_plan_does}
use Rattle.plan.specs.Dropped.{drop_plan_does}
use Rattle.reserve.specs.Reserve.{reserve_does}
use Rattle.parcel.specs.Opened.{retire_object_does, new_object_does, duplicate_does}
use Rattle.parcel.specs.Released.{release_parcel_does}
use Rattle.parcel.specs.Publishing.{ids_at}
use Rattle.parcel.specs.Published.{publish_does}
use Rattle.transfer.proofs.Prepared.{transfer_at_does}
use Rattle.transfer.proofs.Judged.{judging_at_does, judging_keeps}
use Rattle.transfer.proofs.Consumption.{prepare_consumption_does}
use Rattle.claim.proofs.Ends.{abort_does, trim_does}
use Rattle.claim.proofs.RolledBack.{rollback_does}
use Rattle.claim.proofs.Committed.{commit_does}
use Rattle.claim.proofs.Direct.{direct_commit_does, direct_rollback_does}
use Rattle.teardown.specs.Teardown.{remove_stopping_owner_does, teardown_start_does, teardown_step_does, teardown_finish_does}
use Rattle.contract.specs.Run.{Steps}
use Rattle.contract.proofs.Ops.{op_made}
use Rattle.contract.proofs.Short.{step_short}
use Rattle.serve.specs.Serve.{serve_r, one_r}
use Rattle.serve.specs.Known.{known}

module _ (ws os : List ℕ) (sh : Shape) (s : State) (list : List ℕ) (at base : ℕ) (r : Rep ws sh s) where
  abbrev Done : ℕ → Type 0
  Done op = Does ws os sh base s (request_of op list at) (serve_r op ws os sh list at base)

  serves : (op : ℕ) → 1 ≤ op → op ≤ op_last → Done op
  unfolding serve_r request_of ids_at
  serves = known Done
      (new_object_does ws sh s r os base (field_of list at object_field) (field_of list at rights_field) (field_of list at flags_field))
      (duplicate_does ws sh s r os base (field_of list at table_field) (field_of list at value_field) (field_of list at rights_field))
      (release_parcel_does ws sh s r os base (field_of list at id_field))
      (retire_object_does ws sh s r os base (field_of list at object_field))
      (reserve_does ws sh s r os base (field_of list at table_field) (field_of list at count_field))
      (trim_does ws sh s r os base (field_of list at id_field) (field_of list at count_field))
      (abort_does ws sh s r os base (field_of list at id_field))
      (publish_does ws sh s r os base (field_of list at id_field) (ids_at list (end_at list at) (count_at list at)))
      (get_info_does ws sh s r (field_of list at table_field) (field_of list at value_field) os base)
      (resolve_does ws sh s r (field_of list at table_field) (field_of list at value_field) os base (field_of list at rights_field) (field_of list at kind_field))
      (replace_does ws sh s r (field_of list at table_field) (field_of list at value_field) os base (field_of list at rights_field))
      (close_does ws sh s r (field_of list at table_field) (field_of list at value_field) os base)
      (scan_does ws sh s r (field_of list at table_field) (field_of list at cursor_field) os base)
      (transfer_at_does ws sh s r os base list at)
      (prepare_consumption_does ws sh s r os base (field_of list at table_field) (field_of list at value_field) (field_of list at rights_field) (field_of list at kind_field) (field_of list at koid_field))
      (rollback_does ws sh s r os base (field_of list at id_field))
      (commit_does ws sh s r os base (field_of list at id_field))
      (direct_commit_does ws sh s r os base (field_of list at id_field) (field_of list at destination_field))
      (direct_rollback_does ws sh s r os base (field_of list at id_field) (field_of list at destination_field))
      (remove_stopping_owner_does ws sh s r os base (field_of list at table_field) (field_of list at cursor_field))
      (teardown_start_does ws sh s r os base (field_of list at table_field))
      (teardown_step_does ws sh s r os base (field_of list at table_field))
      (teardown_finish_does ws sh s r os base (field_of list at table_field))
      (take_page_does ws os sh base s r (field_of list at table_field))
      (make_plan_does ws sh s r os base (field_of list at table_field) (field_of list at count_field))
      (use_plan_does ws sh s r os base (field_of list at id_field))
      (drop_plan_does ws sh s r os base (field_of list at id_field))
      (judging_at_does ws sh s r os base list at)

  -- a judging changes no word
  judges : (serve_r op_judge_transfer ws os sh list at base).state ≡ ws
  unfolding serve_r
  judges = judging_keeps ws sh s r os base list at

-- EACH REQUEST
pub steps : Steps one_r
steps ws os sh s list at base r w =
    let e = request_is list at (op_at list at) refl in (
      rw e (serves ws os sh s list at base r (op_at list at) w.known.0 w.known.1),
      step_short till (omega arith) s r.well_formed (request_at list at),
      λ q. let k : op_at list at ≡ op_judge_transfer = sym (op_made list at (op_at list at) w.known.0 w.known.1) ∙ (rw e at q) in rw k (judges ws os sh s list at base r),
    )
