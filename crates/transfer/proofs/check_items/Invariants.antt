use Rattle.std.proofs.Common.{◌≡◌, ◌++◌, []}
use Rattle.std.specs.Iterator.Adapters.{enumerate_source, enumerate_count}
use Rattle.layout.specs.Layout.{load}
use Rattle.transfer.specs.Checks.{as_option, items_at, items_left, earlier_at, items_stop}
use Rattle.transfer.specs.Seen.{Seen}
use Rattle.transfer.proofs.check_items.Given as goal

abbrev pub invariant-loop-i : goal.invariant-loop-i
invariant-loop-i l = record {
  taken : items_left l.items ≡ items_at l.items.item.words.now l.items.item.at (enumerate_count l.i-iterator) ++ items_left (enumerate_source l.i-iterator);
  left : items_stop (load l.s l.sh) l.b l.t.route (as_option l.t.forbidden_object) (as_option l.t.forbidden_kind) [] 0 (items_left l.items) ≡ items_stop (load l.s l.sh) l.b l.t.route (as_option l.t.forbidden_object) (as_option l.t.forbidden_kind) (earlier_at l.items.item.words.now l.items.item.at (enumerate_count l.i-iterator)) (enumerate_count l.i-iterator) (items_left (enumerate_source l.i-iterator));
  seen : Seen l.items.item.words.now l.items.item.at (enumerate_count l.i-iterator) l.seen.0;
}
