-- `numbers::number_at` reads group after group: what it has read and what follows is the number.
-- Assumes nothing.
use mathlib.Core.List.{◌∷◌}
use mathlib.Core.Logic.{inl, inr}
use mathlib.Core.Path.{◌≡◌, ap, ◌∙◌}
use Prim.Native.Nat.{◌+◌, ◌-◌, ◌<◌, ◌≤◌}
use native.Mathlib.Omega.{arith}
use native.Mathlib.Numerals.{add-one}
use lib.ListN.{length, drop}
use lib.Seq.{drop-cons}
use Rattle.std.proofs.lemmas.Bool.{cases_lt}
use Rattle.numbers.specs.Numbers.{groups, bound, number}
use Rattle.numbers.proofs.Back.{number_one}
use Rattle.numbers.proofs.Going.{going_first, going_over, going_cut, going_zero, going_last, going_more, at_end, at_bad, at_found}
use Rattle.numbers.proofs.number_at.Goals as goal

pub returns-then-trace-at : goal.returns-then-trace-at
returns-then-trace-at c = search at_end

pub returns-then-first-lt128 : goal.returns-then-first-lt128
returns-then-first-lt128 c =
    let a = c.args in
    let first = c.from-first.result in
    let low : first < 128 = c.if-first-lt128.true in
    let split : drop a.at.0 a.trace.now ≡ first ∷ drop (a.at.0 + 1) a.trace.now = rw (add-one, c.from-first.ensures) (drop-cons a.trace.now a.at.0 0 c.if-trace-at.false) in
    c.below.ensures
    ∙ at_found groups bound a.trace.now a.at.0 c.if-trace-at.false first (a.at.0 + 1) (omega arith)
    (ap (number groups) split ∙ number_one (groups - 1) first (drop (a.at.0 + 1) a.trace.now) low)

pub loop-next-init : goal.loop-next-init
loop-next-init c =
    let a = c.args in
    let byte = c.type_inv.trace a.at.0 in
    let is = c.from-first.ensures in
    going_first groups a.trace.now a.at.0 c.from-first.result _ c.if-trace-at.false is c.if-first-lt128.false (omega (arith, byte, is)) (omega arith)

pub returns-then-group-eq0 : goal.returns-then-group-eq0
returns-then-group-eq0 c =
    let some : 0 < c.args.at.0 + groups - c.loop-next.next = omega arith in
    let here : c.loop-next.next < length c.args.trace.now = omega arith in
    search (at_bad, going_zero)

pub returns-then-group-lt128 : goal.returns-then-group-lt128
returns-then-group-lt128 c =
    let some : 0 < c.args.at.0 + groups - c.loop-next.next = omega arith in
    let here : c.loop-next.next < length c.args.trace.now = omega arith in
    let past : c.loop-next.next + 1 ≤ length c.args.trace.now = omega arith in
    c.below-then-group-lt128.ensures ∙ search (at_found, going_last, past)

pub loop-next-preserved : goal.loop-next-preserved
loop-next-preserved c =
    let some : 0 < c.args.at.0 + groups - c.loop-next.next = omega arith in
    let here : c.loop-next.next < length c.args.trace.now = omega arith in
    let byte : c.from-group.result < 256 = omega (arith, c.type_inv.trace c.loop-next.next, c.from-group.ensures) in
    let left : c.args.at.0 + groups - (c.loop-next.next + 1) ≡ c.args.at.0 + groups - c.loop-next.next - 1 = omega arith in
    rw left (search (going_more, byte))

pub returns : goal.returns
returns c =
    elim (cases_lt c.loop-next.next (length c.args.trace.now)) [
      | inl h ↦ let none : c.args.at.0 + groups - c.loop-next.next ≤ 0 = omega arith in search (at_bad, going_over)
      | inr h ↦ search (at_bad, going_cut)
    ]
