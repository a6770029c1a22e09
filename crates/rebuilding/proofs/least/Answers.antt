-- `least`: what `find` says of the letters that it tried, and `least_found`. Assumes nothing.
use Rattle.std.proofs.Common.{rules, ◌≡◌, eqb, true, false}
use Rattle.std.proofs.lemmas.Iterator.{first_from_Range}
use borrow.Author.Tests.{tests}
use Rattle.words.specs.Lists.{any, at, each}
use Rattle.words.specs.Rows.{card}
use Rattle.words.specs.Stand.{possible}
use Rattle.rebuilding.proofs.Writing.{least_found}
use Rattle.rebuilding.proofs.least.Goals as goal

pub returns : goal.returns
returns c =
    let l = each (card c.args.x.now) (possible (at c.args.t.now) c.args.b) in
    let h = first_from_Range _ _ _ _ (λ k. any (eqb k) l ≡ false) (λ k. any (eqb k) l ≡ true) c.find.ensures.ran (λ x q k. search (rules, tests)) (λ x q k. search (rules, tests)) in
    least_found l c.args.a _ c.unwrap_or.result c.find.result h c.unwrap_or.ensures
