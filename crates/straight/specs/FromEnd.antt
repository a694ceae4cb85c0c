-- A batch laid in the order of the Rust's `publish` (mod.rs, which a direct commit calls too): the handle that stands last is taken first, into the reservation's last slot. (`publish_from_reversed`, which
-- is not ported, begins with the first.) In a well-formed state, the only one that a call can have, no slot stands twice, and it is the step of document 01: proofs/FromEnd.antt.
use Rattle.std.specs.Prelude.{List, [], ◌∷◌, map, ℕ, length, eqb}
use Rattle.model.specs.State.{Sizes, Handle, Slot.occupied, Table, State}
use Rattle.model.specs.Storage.{keep, vacate_all}
use Rattle.model.specs.Request.{Answer.done}
use Rattle.model.specs.Book.{moved_of, sent_of}
use Rattle.model.specs.Effect.{◌setting_table◌to◌, ◌ending◌, ◌ending_all◌}
use Rattle.model.specs.Decision.{Decision, leave◌answer◌, unless◌refuse◌then◌, given◌refuse◌then◌, reservation_row◌of◌refuse◌then◌, claim_row◌of◌refuse◌then◌, handles_of, distinct}

module _ (z : Sizes) where
  -- handles into slots, the last first
  abbrev pub fill_from_end : List ℕ → List Handle → Table → Table
  fill_from_end [] hs t = t
  fill_from_end (k ∷ ks) [] t = t
  fill_from_end (k ∷ ks) (h ∷ hs) t = keep z (λ g. occupied g h) (fill_from_end ks hs t) k

  unfoldable pub publish_from_end : State → (id : ℕ) → (parcels : List ℕ) → Decision
  publish_from_end s i is =
      reservation_row i of s refuse 18 then λ b ks.
      given handles_of is s.book.rows refuse 18 then λ hs.
      unless distinct is refuse 18 then
      unless eqb (length hs) (length ks) refuse 18 then
      leave s
      setting_table b to fill_from_end ks hs (s.tables b)
      ending_all (i ∷ is)
      answer done

  unfoldable pub direct_commit_from_end : State → (id destination : ℕ) → Decision
  direct_commit_from_end s i j =
      claim_row i of s refuse 18 then λ b es.
      reservation_row j of s refuse 18 then λ c ks.
      unless eqb (length es) (length ks) refuse 18 then
      let vacated : State = s setting_table b to vacate_all z (moved_of es) (s.tables b) in
      leave vacated
      setting_table c to fill_from_end ks (map sent_of es) (vacated.tables c)
      ending i
      ending j
      answer done
