use Rattle.std.proofs.Common.{◌≡◌, take, min}
use Rattle.basket.specs.Basket.{total}
use Rattle.basket.proofs.total.Given as goal

abbrev pub invariant-loop-price : goal.invariant-loop-price
invariant-loop-price l = l.sum ≡ min (total (take l.price-index l.prices)) 0xffff_ffff_ffff_ffff
