use Rattle.std.proofs.Common.{◌≡◌, ◌++◌, []}
use Rattle.std.specs.Iterator.Adapters.{enumerate_source, enumerate_count}
use Rattle.transfer.specs.Checks.{items_at, items_left}
use Rattle.transfer.specs.Preparing.{raised_items}
use Rattle.transfer.proofs.raise_items.Given as goal

abbrev pub invariant-loop-i : goal.invariant-loop-i
invariant-loop-i l = record {
  taken : items_left l.items ≡ items_at l.items.item.words.now l.items.item.at (enumerate_count l.i-iterator) ++ items_left (enumerate_source l.i-iterator);
  left : raised_items l.fn.s l.sh l.b [] 0 (items_left l.items) ≡ raised_items l.s l.sh l.b (items_at l.items.item.words.now l.items.item.at (enumerate_count l.i-iterator)) (enumerate_count l.i-iterator) (items_left (enumerate_source l.i-iterator));
}
