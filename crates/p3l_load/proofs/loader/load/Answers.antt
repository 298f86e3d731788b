use Rattle.std.proofs.Common.{◌≡◌, Bool, true, false, sym, subst}
use Rattle.std.specs.List.{All}
use Rattle.p3l_code.specs.Safe.{IsSafe}
use Rattle.p3l_firing.specs.Typed.{IsTyped}
use Rattle.p3l_load.proofs.loader.load.Goals as goal

not_both : (b : Bool) → b ≡ false → b ≡ true → ⊥
not_both true is_false is_true = absurd cc
not_both false is_false is_true = absurd cc

pub returns-then-not-branch-2-clause-refused : goal.returns-then-not-branch-2-clause-refused
returns-then-not-branch-2-clause-refused c = (
  c.in_ok-is_whole.ensures.0 c.if-not-branch.false,
  subst (All IsSafe) c.as_slice.ensures c.in_ok-codes.ensures.safe,
  λ linked. not_both c.in_ok-is_linked.field-0 c.if-not-branch-2.true (c.in_ok-is_linked.ensures.1 linked),
)

pub returns-clause-runs : goal.returns-clause-runs
returns-clause-runs c =
    let whole = c.in_ok-is_whole.ensures.0 c.if-not-branch.false in
    let linked = c.in_ok-is_linked.ensures.0 c.if-not-branch-2.false in
    let image = c.args.image in
    record {
      whole = whole;
      safe = subst (All IsSafe) c.as_slice.ensures c.in_ok-codes.ensures.safe;
      linked = linked;
      typed = subst (IsTyped image.tree) (sym linked) (c.a_linked_net_is_typed.ensures image.tree image.counts.list image.cap whole.lawful whole.counted whole.few c.requires.some);
    }
