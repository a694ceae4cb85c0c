-- Document 02, 2, "Look at a handle while it is being moved": a line for each of its sentences that a run can show. Three handles of object 0 (koid 70, kind 3) stand in table 0:
-- rights 15 in slot 63, 7 in 62, 3 in 61.
use Rattle.std.specs.Prelude.{◌≡◌, refl, List, [], ◌∷◌, ◌++◌, ℕ}
use Rattle.std.proofs.Math.Option.{some}
use Rattle.authority.specs.Rights.{contains}
use Rattle.codec.specs.Codec.{encode, payload, decodes, payload_in, number_in, slot_in, generation_in, next_generation, mask_of}
use Rattle.model.specs.Base.{nth}
use Rattle.model.specs.State.{max_batch, max_slots, known_flags, last_id}
use Rattle.model.specs.Storage.{place, vacate, take_free, pages_for, attach, detach}
use Rattle.model.specs.Request.{Operation.as_move, Operation.as_copy}
use Rattle.model.specs.Request.{Request, Request.new_object, Request.duplicate, Request.reserve, Request.publish, Request.get_info, Request.resolve, Request.replace, Request.close, Request.prepare_consumption, Request.rollback, Request.commit, Request.direct_commit, Request.direct_rollback, Request.retire_object}
use Rattle.model.specs.Step.{decide, step, new_object_of, duplicate_of, retire_object_of, reserve_of, publish_of, get_info_of, resolve_of, replace_of, close_of, prepare_transfer_of, prepare_consumption_of, rollback_of, commit_of, direct_commit_of, direct_rollback_of}
use Rattle.model.specs.Words.{used_words}
use Rattle.model.proofs.Cases.{Case, ◌is◌, line, fresh, at0, end, last, numbers, three, v63, item, offered, transfer}

abbrev v62 : ℕ
v62 = encode 0 62 1

abbrev v61 : ℕ
v61 = encode 0 61 1

-- 63 and 61 are moved, each with fewer rights for the receiver, and a copy stands between them: the claim 6
abbrev held : List Request
held = three ++ (transfer (item as_move v63 1 ∷ item as_copy v62 1 ∷ item as_move v61 2 ∷ []) ∷ [])

-- a handle with flags 3 is consumed: the claim 3
abbrev consumed : List Request
consumed = new_object 0 15 3 ∷ reserve 0 1 ∷ publish 2 (1 ∷ []) ∷ prepare_consumption 0 v63 4 3 70 ∷ []

pub looks : List Case
unfolding fresh encode payload decodes payload_in number_in slot_in generation_in mask_of next_generation contains max_batch max_slots known_flags last_id
    place vacate take_free pages_for attach detach decide step used_words
    new_object_of duplicate_of retire_object_of reserve_of publish_of get_info_of resolve_of replace_of close_of prepare_transfer_of prepare_consumption_of rollback_of commit_of
    direct_commit_of direct_rollback_of
looks =
    -- "with the koid, kind, rights and flags it had before": its own rights, not those that the receiver gets, and each its own where a copy stands between
    last (end fresh held) (get_info 0 v63 ∷ []) is (0 ∷ 70 ∷ 3 ∷ 15 ∷ 0 ∷ [])
    ∷ last (end fresh held) (get_info 0 v61 ∷ []) is (0 ∷ 70 ∷ 3 ∷ 3 ∷ 0 ∷ [])
    -- .. nor those that were offered
    ∷ last (end fresh three) (transfer (offered 7 (item as_move v63 3) ∷ []) ∷ get_info 0 v63 ∷ []) is (0 ∷ 70 ∷ 3 ∷ 15 ∷ 0 ∷ [])
    -- a handle that is only copied is not moved: it stands in its slot
    ∷ last (end fresh held) (get_info 0 v62 ∷ []) is (0 ∷ 70 ∷ 3 ∷ 7 ∷ 0 ∷ [])
    -- "consumption included"
    ∷ last (end fresh consumed) (get_info 0 v63 ∷ []) is (0 ∷ 70 ∷ 3 ∷ 15 ∷ 3 ∷ [])
    -- "Every other call answers on it as before"
    ∷ numbers (end fresh held) (resolve 0 v63 0 3 ∷ duplicate 0 v63 0 ∷ replace 0 v63 0 ∷ close 0 v63 ∷ transfer (item as_move v63 0 ∷ []) ∷ transfer (item as_copy v63 0 ∷ []) ∷ prepare_consumption 0 v63 0 3 70 ∷ get_info 0 v63 ∷ []) is (3 ∷ 3 ∷ 3 ∷ 3 ∷ 3 ∷ 3 ∷ 3 ∷ 0 ∷ [])
    ∷ numbers (end fresh consumed) (resolve 0 v63 0 3 ∷ close 0 v63 ∷ get_info 0 v63 ∷ []) is (3 ∷ 3 ∷ 0 ∷ [])
    -- the refusals that stay: an unknown table, another generation, another prefix, a Reserved slot
    ∷ numbers (end fresh held) (get_info 2 v63 ∷ get_info 0 (at0 63 2) ∷ get_info 0 0x4900000001000040 ∷ get_info 1 v63 ∷ reserve 0 1 ∷ get_info 0 (at0 60 1) ∷ []) is (18 ∷ 2 ∷ 2 ∷ 2 ∷ 0 ∷ 2 ∷ [])
    -- two open claims of one table, each with its own handle
    ∷ last (end fresh (held ++ (prepare_consumption 0 v62 1 3 70 ∷ []))) (get_info 0 v62 ∷ []) is (0 ∷ 70 ∷ 3 ∷ 7 ∷ 0 ∷ [])
    ∷ last (end fresh (held ++ (prepare_consumption 0 v62 1 3 70 ∷ []))) (get_info 0 v61 ∷ []) is (0 ∷ 70 ∷ 3 ∷ 3 ∷ 0 ∷ [])
    -- an object that its owner retires meanwhile
    ∷ last (end fresh held) (retire_object 0 ∷ get_info 0 v61 ∷ []) is (0 ∷ 70 ∷ 3 ∷ 3 ∷ 0 ∷ [])
    -- after a rollback the same again; after a commit, of a transfer or of a consumption, the value names nothing
    ∷ last (end fresh held) (rollback 6 ∷ get_info 0 v61 ∷ []) is (0 ∷ 70 ∷ 3 ∷ 3 ∷ 0 ∷ [])
    ∷ last (end fresh consumed) (rollback 3 ∷ get_info 0 v63 ∷ []) is (0 ∷ 70 ∷ 3 ∷ 15 ∷ 3 ∷ [])
    ∷ numbers (end fresh held) (commit 6 ∷ get_info 0 v63 ∷ get_info 0 v61 ∷ get_info 0 v62 ∷ []) is (0 ∷ 2 ∷ 2 ∷ 0 ∷ [])
    ∷ numbers (end fresh consumed) (commit 3 ∷ get_info 0 v63 ∷ []) is (0 ∷ 2 ∷ [])
    ∷ numbers (end fresh held) (reserve 1 3 ∷ direct_commit 6 7 ∷ get_info 0 v61 ∷ get_info 1 (encode 5 61 1) ∷ []) is (0 ∷ 0 ∷ 2 ∷ 0 ∷ [])
    ∷ last (end fresh held) (reserve 1 3 ∷ direct_rollback 6 7 ∷ get_info 0 v61 ∷ []) is (0 ∷ 70 ∷ 3 ∷ 3 ∷ 0 ∷ [])
    ∷ []

pub looks_hold : (k : ℕ) (c : Case) → nth looks k ≡ some c → c.given ≡ c.said
unfolding looks
looks_hold = line looks refl
