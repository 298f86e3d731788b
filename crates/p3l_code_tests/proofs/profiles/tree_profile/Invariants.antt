use Rattle.p3l_profile.specs.Greatest.{IsProfileOf}
use Rattle.p3l_code_tests.proofs.profiles.tree_profile.Given as goal

abbrev pub invariant-loop-item : goal.invariant-loop-item
invariant-loop-item l = IsProfileOf l.tree l.profile
