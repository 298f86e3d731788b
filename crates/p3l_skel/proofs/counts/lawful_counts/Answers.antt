use Rattle.std.proofs.Common.{◌≡◌, ℕ, List, [], length, drop, arith, ap, length-drop}
use Rattle.std.proofs.lemmas.List.{drop_all}
use Rattle.std.proofs.lemmas.Bool.{leb-true, le-leb}
use Rattle.p3l_skel.specs.Tree.{nesting}
use Rattle.p3l_skel.specs.Counts.{TakesLawful, counted_from}
use Rattle.p3l_skel.proofs.Taken.{TakesLawful-unique}
use Rattle.p3l_skel.proofs.counts.lawful_counts.Goals as goal

pub returns-in-Some : goal.returns-in-Some
returns-in-Some c =
    let counts : List ℕ = c.as_slice-counts.result.now in
    let taken : TakesLawful c.args.tree.now (counted_from c.args.tree.now nesting 0) c.args.counts.now.list (drop c.in-Some.next counts) =
    rw (← c.as_slice-counts.ensures) c.in-Some.ensures.ok in (
      λ ends. rw (drop_all _ _ (leb-true _ _ ends)) at taken,
      λ all. let nothing : drop c.in-Some.next counts ≡ [] = TakesLawful-unique c.args.tree.now _ _ _ _ taken all in
          le-leb _ _ (omega (arith, ap length nothing, length-drop c.in-Some.next counts)),
    )
