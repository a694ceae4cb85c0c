-- The two runs of demand 3 over the shop's words, with any list. Assumes nothing.
use Rattle.std.specs.Prelude.{◌≡◌, refl, true, false, List, [], ◌∷◌, ◌++◌, ℕ, get_or}
use Rattle.std.proofs.Common.{ap, ◌∙◌}
use Rattle.std.proofs.Math.Option.{none, some}
use Rattle.model.specs.Base.{every}
use Rattle.model.specs.State.{till}
use Rattle.model.specs.Request.{Route.buffered, Request}
use Rattle.model.specs.Step.{step}
use Rattle.model.specs.Words.{read_list}
use Rattle.noninterference.specs.Runs.{permitted, wanting}
use Rattle.promises.specs.Lower.{lower_words, Ending, end_h, end_p}
use Rattle.promises.specs.Terms.{Call, Calls, list_of, Together}
use Rattle.promises.proofs.Demand2.{demand_2_lists, demand_2_calls}
use Rattle.promises.specs.Demand3.{TwoRuns}
use Rattle.promises.proofs.Shop.{ran, sh, shop, Begun, rep_shop, v61, v63, prepare_words, items, transfer, reads_prepare}

-- two shops begun, in other memories and by other cuts; H moves two handles out, runs the list rs, whose words are `words`, and ends the transfer with r; P runs the
-- list, in calls cut anywhere
module _ (ws : List ℕ) (wb : Begun ws) (hs : List Call) (kh : Calls ws hs) (words : List ℕ) (rs : List Request) (reads : read_list words ≡ some rs) (e : Ending) (r : Request)
    (er : read_list (end_h e 6) ≡ some (r ∷ [])) (lh : list_of hs ≡ prepare_words ++ (words ++ end_h e 6)) where
  -- what run H leaves, by the steps
  pub held_leaves : Together ws sh shop hs (transfer ∷ rs ++ (r ∷ []))
  held_leaves = demand_2_calls sh ws shop hs (transfer ∷ rs ++ (r ∷ [])) (rep_shop ws wb) kh
      (ap read_list lh ∙ demand_2_lists prepare_words (words ++ end_h e 6) (transfer ∷ []) (rs ++ (r ∷ [])) reads_prepare (demand_2_lists words (end_h e 6) rs (r ∷ []) reads er))

unfoldable pub runs_of : (ws us : List ℕ) → Begun ws → Begun us → (hs ps : List Call) → Calls ws hs → Calls us ps → (words : List ℕ) (rs : List Request) → read_list words ≡ some rs
    → (e : Ending) (r : Request) → read_list (end_h e 6) ≡ some (r ∷ []) → list_of hs ≡ prepare_words ++ (words ++ end_h e 6)
    → list_of ps ≡ lower_words 6 words ++ end_p e 0 (v61 ∷ v63 ∷ []) → every (permitted 6 0 (v61 ∷ v63 ∷ [])) rs ≡ true → wanting till (step till shop transfer).0 rs ≡ false → TwoRuns
unfolding ran
runs_of ws us wb ub hs ps kh kp words rs reads e r er lh lp permits wants = let h = held_leaves ws wb hs kh words rs reads e r er lh in record {
  sh = sh;
  ws = ws;
  us = us;
  s = shop;
  u = shop;
  start_h = rep_shop ws wb;
  start_p = rep_shop us ub;
  equal = refl;
  table = 0;
  route = buffered;
  banned_object = none;
  banned_kind = none;
  items = items;
  moves = refl;
  transfer = prepare_words;
  transfers = reads_prepare;
  list = words;
  requests = rs;
  reads = reads;
  ending = e;
  t = 6;
  hs = hs;
  calls_h = kh;
  list_h = lh;
  accepted = ap (λ (l : List ℕ). get_or l 0 0) h.answers;
  id = ap (λ (l : List ℕ). get_or l 1 0) h.answers;
  ps = ps;
  calls_p = kp;
  list_p = lp;
  permits = permits;
  wants = wants;
}
