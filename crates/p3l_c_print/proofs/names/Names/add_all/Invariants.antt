use Rattle.std.proofs.Common.{◌≡◌, drop}
use Rattle.p3l_c_print.specs.Name.{all_entered}
use Rattle.p3l_c_print.proofs.names.Names.add_all.Given as goal

-- the variables so far, with those that are left
abbrev pub invariant-loop-number : goal.invariant-loop-number
invariant-loop-number l = record {
  places : all_entered l.kind l.number (drop l.number l.vars) l.self.places ≡ all_entered l.kind 0 l.vars l.fn.self.places;
  constants : l.self.constants ≡ l.fn.self.constants;
  home : l.self.home ≡ l.fn.self.home;
}
