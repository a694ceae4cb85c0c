use Rattle.std.proofs.Common.{◌≡◌}
use Rattle.layout.specs.Layout.{load}
use Rattle.counts.specs.Used.{used_to}
use Rattle.counts.proofs.Objects.used.Given as goal

abbrev pub invariant-loop-o : goal.invariant-loop-o
invariant-loop-o l = used_to (load l.self.words.now l.self.sh) l.o ≡ used_to (load l.self.words.now l.self.sh) l.self.sh.objects
