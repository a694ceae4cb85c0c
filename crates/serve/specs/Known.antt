-- What is shown op by op. Assumes nothing.
use Rattle.std.specs.Prelude.{ℕ, zero, suc, ◌≤◌}
use Rattle.std.proofs.Common.{arith}
use Rattle.format.specs.Ops.{op_new_object, op_duplicate, op_release_parcel, op_retire_object, op_reserve, op_trim, op_abort, op_publish, op_get_info, op_resolve, op_replace, op_close, op_scan_handles, op_prepare_transfer, op_prepare_consumption, op_rollback, op_commit, op_direct_commit, op_direct_rollback, op_remove_stopping_owner, op_teardown_start, op_teardown_step, op_teardown_finish, op_take_empty_page, op_make_plan, op_use_plan, op_drop_plan, op_judge_transfer, op_last}

-- what holds for each op holds for every known one
pub known : (P : ℕ → Type 0) → P op_new_object → P op_duplicate → P op_release_parcel → P op_retire_object → P op_reserve → P op_trim → P op_abort → P op_publish → P op_get_info → P op_resolve → P op_replace → P op_close → P op_scan_handles → P op_prepare_transfer → P op_prepare_consumption → P op_rollback → P op_commit → P op_direct_commit → P op_direct_rollback → P op_remove_stopping_owner → P op_teardown_start → P op_teardown_step → P op_teardown_finish → P op_take_empty_page → P op_make_plan → P op_use_plan → P op_drop_plan → P op_judge_transfer
    → (op : ℕ) → 1 ≤ op → op ≤ op_last → P op
known P p1 p2 p3 p4 p5 p6 p7 p8 p9 p10 p11 p12 p13 p14 p15 p16 p17 p18 p19 p20 p21 p22 p23 p24 p25 p26 p27 p28 op a b = go op a b
  where
    go : (n : ℕ) → 1 ≤ n → n ≤ op_last → P n
    go zero a b = absurd (omega arith)
    go (suc zero) a b = p1
    go (suc (suc zero)) a b = p2
    go (suc (suc (suc zero))) a b = p3
    go (suc (suc (suc (suc zero)))) a b = p4
    go (suc (suc (suc (suc (suc zero))))) a b = p5
    go (suc (suc (suc (suc (suc (suc zero)))))) a b = p6
    go (suc (suc (suc (suc (suc (suc (suc zero))))))) a b = p7
    go (suc (suc (suc (suc (suc (suc (suc (suc zero)))))))) a b = p8
    go (suc (suc (suc (suc (suc (suc (suc (suc (suc zero))))))))) a b = p9
    go (suc (suc (suc (suc (suc (suc (suc (suc (suc (suc zero)))))))))) a b = p10
    go (suc (suc (suc (suc (suc (suc (suc (suc (suc (suc (suc zero))))))))))) a b = p11
    go (suc (suc (suc (suc (suc (suc (suc (suc (suc (suc (suc (suc zero)))))))))))) a b = p12
    go (suc (suc (suc (suc (suc (suc (suc (suc (suc (suc (suc (suc (suc zero))))))))))))) a b = p13
    go (suc (suc (suc (suc (suc (suc (suc (suc (suc (suc (suc (suc (suc (suc zero)))))))))))))) a b = p14
    go (suc (suc (suc (suc (suc (suc (suc (suc (suc (suc (suc (suc (suc (suc (suc zero))))))))))))))) a b = p15
    go (suc (suc (suc (suc (suc (suc (suc (suc (suc (suc (suc (suc (suc (suc (suc (suc zero)))))))))))))))) a b = p16
    go (suc (suc (suc (suc (suc (suc (suc (suc (suc (suc (suc (suc (suc (suc (suc (suc (suc zero))))))))))))))))) a b = p17
    go (suc (suc (suc (suc (suc (suc (suc (suc (suc (suc (suc (suc (suc (suc (suc (suc (suc (suc zero)))))))))))))))))) a b = p18
    go (suc (suc (suc (suc (suc (suc (suc (suc (suc (suc (suc (suc (suc (suc (suc (suc (suc (suc (suc zero))))))))))))))))))) a b = p19
    go (suc (suc (suc (suc (suc (suc (suc (suc (suc (suc (suc (suc (suc (suc (suc (suc (suc (suc (suc (suc zero)))))))))))))))))))) a b = p20
    go (suc (suc (suc (suc (suc (suc (suc (suc (suc (suc (suc (suc (suc (suc (suc (suc (suc (suc (suc (suc (suc zero))))))))))))))))))))) a b = p21
    go (suc (suc (suc (suc (suc (suc (suc (suc (suc (suc (suc (suc (suc (suc (suc (suc (suc (suc (suc (suc (suc (suc zero)))))))))))))))))))))) a b = p22
    go (suc (suc (suc (suc (suc (suc (suc (suc (suc (suc (suc (suc (suc (suc (suc (suc (suc (suc (suc (suc (suc (suc (suc zero))))))))))))))))))))))) a b = p23
    go (suc (suc (suc (suc (suc (suc (suc (suc (suc (suc (suc (suc (suc (suc (suc (suc (suc (suc (suc (suc (suc (suc (suc (suc zero)))))))))))))))))))))))) a b = p24
    go (suc (suc (suc (suc (suc (suc (suc (suc (suc (suc (suc (suc (suc (suc (suc (suc (suc (suc (suc (suc (suc (suc (suc (suc (suc zero))))))))))))))))))))))))) a b = p25
    go (suc (suc (suc (suc (suc (suc (suc (suc (suc (suc (suc (suc (suc (suc (suc (suc (suc (suc (suc (suc (suc (suc (suc (suc (suc (suc zero)))))))))))))))))))))))))) a b = p26
    go (suc (suc (suc (suc (suc (suc (suc (suc (suc (suc (suc (suc (suc (suc (suc (suc (suc (suc (suc (suc (suc (suc (suc (suc (suc (suc (suc zero))))))))))))))))))))))))))) a b = p27
    go (suc (suc (suc (suc (suc (suc (suc (suc (suc (suc (suc (suc (suc (suc (suc (suc (suc (suc (suc (suc (suc (suc (suc (suc (suc (suc (suc (suc zero)))))))))))))))))))))))))))) a b = p28
    go (suc (suc (suc (suc (suc (suc (suc (suc (suc (suc (suc (suc (suc (suc (suc (suc (suc (suc (suc (suc (suc (suc (suc (suc (suc (suc (suc (suc (suc n))))))))))))))))))))))))))))) a b = absurd (omega arith)
