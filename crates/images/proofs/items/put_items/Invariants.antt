-- Each turn writes the address of the next item behind those in the table, and the item behind those passed.
use Prim.Native.Nat.{◌+◌, ◌-◌, ◌*◌}
use lib.ListN.{drop}
use Rattle.images.specs.Fronts.{here}
use Rattle.images.proofs.LayingLaws.{Laying}
use Rattle.images.proofs.items.put_items.Given as goal

abbrev pub invariant-loop-i : goal.invariant-loop-i
invariant-loop-i g l = (Laying here g.I.Item.len g.I.Item.size g.I.Item.image l.items.list.now l.items.count l.initial.out l.items.table l.items.at l.out (l.items.count - l.i) l.place l.next (l.items.table + 8 * l.i)) × (g.I.Item.few (l.items.count - l.i) (drop l.place l.items.list.now))
