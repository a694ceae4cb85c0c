-- Ops by their number: docs/formats.md, "Ops".
use Rattle.std.specs.Prelude.{ℕ}

abbrev pub op_new_object : ℕ
op_new_object = 1

abbrev pub op_duplicate : ℕ
op_duplicate = 2

abbrev pub op_release_parcel : ℕ
op_release_parcel = 3

abbrev pub op_retire_object : ℕ
op_retire_object = 4

abbrev pub op_reserve : ℕ
op_reserve = 5

abbrev pub op_trim : ℕ
op_trim = 6

abbrev pub op_abort : ℕ
op_abort = 7

abbrev pub op_publish : ℕ
op_publish = 8

abbrev pub op_get_info : ℕ
op_get_info = 9

abbrev pub op_resolve : ℕ
op_resolve = 10

abbrev pub op_replace : ℕ
op_replace = 11

abbrev pub op_close : ℕ
op_close = 12

abbrev pub op_scan_handles : ℕ
op_scan_handles = 13

abbrev pub op_prepare_transfer : ℕ
op_prepare_transfer = 14

abbrev pub op_prepare_consumption : ℕ
op_prepare_consumption = 15

abbrev pub op_rollback : ℕ
op_rollback = 16

abbrev pub op_commit : ℕ
op_commit = 17

abbrev pub op_direct_commit : ℕ
op_direct_commit = 18

abbrev pub op_direct_rollback : ℕ
op_direct_rollback = 19

abbrev pub op_remove_stopping_owner : ℕ
op_remove_stopping_owner = 20

abbrev pub op_teardown_start : ℕ
op_teardown_start = 21

abbrev pub op_teardown_step : ℕ
op_teardown_step = 22

abbrev pub op_teardown_finish : ℕ
op_teardown_finish = 23

abbrev pub op_take_empty_page : ℕ
op_take_empty_page = 24

abbrev pub op_make_plan : ℕ
op_make_plan = 25

abbrev pub op_use_plan : ℕ
op_use_plan = 26

abbrev pub op_drop_plan : ℕ
op_drop_plan = 27

abbrev pub op_judge_transfer : ℕ
op_judge_transfer = 28

-- the last of them
abbrev pub op_last : ℕ
op_last = 28
