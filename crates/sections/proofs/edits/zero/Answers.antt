-- Where the range test holds the bytes are overwritten, else nothing is.
use Rattle.std.proofs.Common.{rules, arith, ◌≡◌, ◌+◌, ◌-◌, ◌≤◌, length, take, drop, length-take, length-drop}
use Rattle.std.proofs.lemmas.List.{length-replicate}
use borrow.Author.Tests.{leb-true}
use Rattle.sections.proofs.EditLaws.{Edited-yes, overwrite-slice}
use Rattle.sections.proofs.edits.zero.Goals as goal

pub returns : goal.returns
returns c =
    let a = c.args in
    let fit : a.at + a.n ≤ length a.buf.now = leb-true _ _ (search rules) in
    let e : length (take (a.at + a.n - a.at) (drop a.at a.buf.now)) ≡ a.n = simp (length-take, length-drop) (omega arith) in
    Edited-yes (search rules) (rw (c.fill.ensures.after (λ y h. search rules), e) (overwrite-slice a.buf.now a.at a.n _ (length-replicate a.n 0)))
