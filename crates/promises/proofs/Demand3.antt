-- DEMAND 3 of document 00, over words: the theorem of the page specs/Demand3.antt. Assumes nothing.
use Rattle.std.specs.Prelude.{List, [], ◌∷◌, ◌++◌, map, ℕ, ◌*◌, get_or}
use Rattle.std.proofs.Common.{sym, ap, subst, ◌∙◌, arith}
use Rattle.format.specs.Format.{answer_words}
use Rattle.model.specs.State.{till, State}
use Rattle.model.specs.Request.{Request, Request.prepare_transfer}
use Rattle.model.specs.Step.{step, run}
use Rattle.model.specs.Words.{read_list, words_of}
use Rattle.representation.specs.Represents.{Rep}
use Rattle.invariant.proofs.Pages.{till_sane}
use Rattle.noninterference.specs.Names.{value_of}
use Rattle.noninterference.specs.Runs.{lower_request}
use Rattle.noninterference.proofs.Theorem.{held_and_plain}
use Rattle.noninterference.proofs.Plans.{held_and_plain_plans}
use Rattle.promises.specs.Lower.{lower_words, lower_answers, end_h, end_p, last_h, last_p}
use Rattle.promises.proofs.Lower.{reads_lowered, reads_both, reads_last_h, reads_last_p}
use Rattle.promises.specs.Terms.{left, answers_of}
use Rattle.promises.proofs.Calls.{run_both, together}
use Rattle.promises.proofs.Held.{held_words, plain_words, lowered_answers, closed_words, ends, as_many, plans_end}
use Rattle.promises.specs.Demand3.{TwoRuns, Same}

pub demand_3 : (x : TwoRuns) → Same x
demand_3 x =
    let transfer : Request = prepare_transfer x.table x.route x.banned_object x.banned_kind x.items in
    let values : List ℕ = map value_of x.items in
    let plain : List Request = map (lower_request x.t) x.requests in
    let last : Request = last_h x.ending x.t in
    let closings : List Request = last_p x.ending x.table values in
    let first : State = (step till x.s transfer).0 in
    let ht = together x.sh x.ws x.s x.hs (transfer ∷ x.requests ++ (last ∷ [])) x.start_h x.calls_h
    (ap read_list x.list_h ∙ reads_both x.transfer (x.list ++ end_h x.ending x.t) (transfer ∷ []) (x.requests ++ (last ∷ [])) x.transfers
    (reads_both x.list (end_h x.ending x.t) x.requests (last ∷ []) x.reads (reads_last_h x.ending x.t))) in
    let pt = together x.sh x.us x.u x.ps (plain ++ closings) x.start_p x.calls_p
    (ap read_list x.list_p ∙ reads_both (lower_words x.t x.list) (end_p x.ending x.table values) plain closings (reads_lowered x.t x.list x.requests x.reads)
    (reads_last_p x.ending x.table values)) in
    let h = held_words x.s x.table x.route x.banned_object x.banned_kind x.items x.requests last (answers_of x.hs) x.t ht.answers x.accepted x.id in
    let p = plain_words x.t x.u x.requests closings (answers_of x.ps) pt.answers in
    let g = held_and_plain till till_sane x.s x.u x.start_h.well_formed x.equal x.table x.route x.banned_object x.banned_kind x.items x.moves x.t h.opened
    x.requests x.permits x.wants in
    let e = ends x.ending x.t x.table values (run till first x.requests) (run till x.u plain) g in
    let stale = held_and_plain_plans till till_sane x.s x.u x.start_h.well_formed x.equal x.table x.route x.banned_object x.banned_kind x.items x.moves x.t h.opened
    x.requests x.permits x.wants in
    record {
      passed = (ht.passed, pt.passed);
      ended = h.last ∙ ap words_of e.done_H;
      closed = λ q i lt. ap (λ (l : List ℕ). get_or l (answer_words * i) 18) p.last
          ∙ closed_words (run till (run till x.u plain).0 closings).1 e.done_P i 18 (omega (arith, as_many x.ending x.table x.items (run till x.u plain).0 q));
      answers = p.list ∙ lowered_answers x.t first x.requests (run till x.u plain).1 g.answers ∙ ap (lower_answers x.t x.requests) (sym h.list);
      state_h = (step till (run till first x.requests).0 last).0;
      state_p = (run till (run till x.u plain).0 closings).0;
      held = subst (Rep (left x.ws x.hs) x.sh) (run_both till first x.requests (last ∷ [])).0 ht.state;
      plain = subst (Rep (left x.us x.ps) x.sh) (run_both till x.u plain closings).0 pt.state;
      whole = e.whole;
      tables = e.tables;
      next = e.next;
      plans = plans_end x.ending x.t x.table values (run till first x.requests).0 (run till x.u plain).0 stale;
    }
