-- Each turn writes the address of the next item behind those in the table, and the item behind those passed.
use Rattle.std.proofs.Common.{◌≡◌, ◌+◌, ◌-◌, ◌<◌, ◌≤◌, arith}
use mathlib.Core.Path.{sym, ap, ◌∙◌}
use mathlib.Core.List.{List}
use Prim.Native.Nat.{ℕ, suc}
use lib.ListN.{drop}
use lib.Seq.{drop-drop}
use Rattle.halls.proofs.WalkLaws.{slice-rest}
use Rattle.images.proofs.LayingLaws.{Laying-first, item_room, item-measured, item-place, item-next, Laying-next, Laying-end}
use Rattle.images.proofs.WalkLaws.{walk-rest, walk-length, walk-passed}
use Rattle.images.proofs.items.put_items.Goals as goal

pub loop-i-init : goal.loop-i-init
loop-i-init g c =
    let p = c.requires.1 in
    let all : c.args.items.count - 0 ≡ c.args.items.count = omega arith in
    (Laying-first c.requires.0.sized _ _ _ _ _ p.within p.room p.apart, rw all c.requires.2)

pub put-m-requires : goal.put-m-requires
put-m-requires g c =
    let w = c.loop-i.invariant.0 in
    let more : 0 < c.args.items.count - c.loop-i.i = omega (arith, c.loop-i-test.true) in
    let some : suc (c.args.items.count - (c.loop-i.i + 1)) ≡ c.args.items.count - c.loop-i.i = omega (arith, c.loop-i-test.true) in
    let rest : List ℕ = drop c.loop-i.place c.args.items.list.now in
    let few = c.requires.0.fewer (c.args.items.count - (c.loop-i.i + 1)) rest (rw some c.loop-i.invariant.1) in
    (walk-rest w.walking more, rw (slice-rest c.args.items.list.now c.loop-i.place) few.0, item_room c.requires.0.sized w more c.address_of.ensures c.put_u64_le.ensures)

pub overflow_add-place : goal.overflow_add-place
overflow_add-place g c =
    let more : 0 < c.args.items.count - c.loop-i.i = omega (arith, c.loop-i-test.true) in
    omega (arith, item-place c.requires.0.sized c.loop-i.invariant.0 more c.address_of.ensures c.put_u64_le.ensures c.put-m.ensures, c.well_formed)

pub overflow_add-next : goal.overflow_add-next
overflow_add-next g c =
    let more : 0 < c.args.items.count - c.loop-i.i = omega (arith, c.loop-i-test.true) in
    omega (arith, item-next c.requires.0.sized c.loop-i.invariant.0 more c.address_of.ensures c.put_u64_le.ensures c.put-m.ensures)

pub loop-i-preserved : goal.loop-i-preserved
loop-i-preserved g c =
    let w = c.loop-i.invariant.0 in
    let a = c.address_of.ensures in
    let e = c.put_u64_le.ensures in
    let q = c.put-m.ensures in
    let more : 0 < c.args.items.count - c.loop-i.i = omega (arith, c.loop-i-test.true) in
    let some : suc (c.args.items.count - (c.loop-i.i + 1)) ≡ c.args.items.count - c.loop-i.i = omega (arith, c.loop-i-test.true) in
    let s : List ℕ = c.args.items.list.now in
    let rest : List ℕ = drop c.loop-i.place s in
    let few = c.requires.0.fewer (c.args.items.count - (c.loop-i.i + 1)) rest (rw some c.loop-i.invariant.1) in
    let m = item-measured c.requires.0.sized w more a e q in
    let behind : drop (g.I.Item.len rest) rest ≡ drop (c.loop-i.place + c.put-m.result.«length») s =
    ap (λ (i : ℕ). drop i rest) (sym m.length-is) ∙ drop-drop c.put-m.result.«length» c.loop-i.place s in
    (Laying-next c.requires.0.sized w c.loop-i-test.true a e q, rw (← behind) few.1)

pub returns : goal.returns
returns g c =
    let w = c.loop-i.invariant.0 in
    let none : c.args.items.count - c.loop-i.i ≤ 0 = omega (arith, c.loop-i-test.false) in
    let p = c.requires.1 in
    record {
      measured = cc (walk-length w.walking none, walk-passed w.walking none);
      bytes = Laying-end c.requires.0.sized w none c.put_gap.ensures p.room p.apart;
    }
