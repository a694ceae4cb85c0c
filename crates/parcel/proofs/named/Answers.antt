use Rattle.std.proofs.Common.{rules, tests, ◌≡◌, ℕ, List, [], ◌∷◌, refl, eqb, ◌∙◌}
use Rattle.std.specs.List.{list_any}
use Rattle.std.proofs.lemmas.Iterator.Consumers.{YieldsList-from_first}
use Rattle.std.proofs.lemmas.Iterator.Search.{any_from_yields_List}
use Rattle.words.specs.Pick.{bool}
use Rattle.model.specs.Base.{member}
use Rattle.parcel.specs.Publishing.{ids_left}
use Rattle.parcel.proofs.named.Goals as goal

-- The check does not find this alone: what `any` gives is said over its closure, and the list of ids that it went over has to be named.
any_member : (k : ℕ) (xs : List ℕ) → list_any (λ x. eqb k x) xs ≡ member k xs
any_member k [] = refl
any_member k (x ∷ xs) = bool (eqb k x) (λ e. rw e) (λ e. rw e (any_member k xs))

pub returns : goal.returns
returns c =
    any_from_yields_List (λ x. eqb c.args.id.0 x) c.any.new.self _ _ c.any.ensures.ran (YieldsList-from_first (λ id. id.0) ids_left {s = c.args.parcels} _ refl) (λ x b q k. search (rules, tests))
    ∙ any_member c.args.id.0 _
