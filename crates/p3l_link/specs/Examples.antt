-- Two nets that were worked out by hand.
use Rattle.std.specs.Prelude.{◌≡◌, [], ◌∷◌, None, replicate}
use Rattle.p3l_skel.specs.declared.tree.Form.TheVariants.{Pipe, Farm, Seq}
use Rattle.p3l_skel.specs.declared.tree.Tree.{Tree}
use Rattle.p3l_skel.specs.Tree.{seq_tree}
use Rattle.p3l_firing.specs.declared.net.Net.{Net}
use Rattle.p3l_firing.specs.declared.process.ProcKind.TheVariants.{Source, Sink, Run, Emit, Collect}
use Rattle.p3l_link.specs.Net.{linked_net}

-- one process between the source and the sink
abbrev pub seq_net : Net
seq_net = record {
  procs = record { kind = Source; node = 0; arg = 0; ins = []; outs = 0 ∷ [] }
      ∷ (record { kind = Sink; node = 0; arg = 0; ins = 1 ∷ []; outs = [] }
      ∷ (record { kind = Run; node = 0; arg = 0; ins = 0 ∷ []; outs = 1 ∷ [] } ∷ []));
  chans = replicate 2 (record { cap = 4; credits = 0 });
}

-- a pipe of one process and a farm of another
abbrev pub farm_tree : Tree
farm_tree = record {
  nodes = record { form = Pipe; «module» = 3; ins = 1; outs = 1; parts = 1 ∷ (2 ∷ []) }
      ∷ (record { form = Seq; «module» = 0; ins = 1; outs = 1; parts = [] }
      ∷ (record { form = Farm None; «module» = 2; ins = 1; outs = 1; parts = 3 ∷ [] }
      ∷ (record { form = Seq; «module» = 1; ins = 1; outs = 1; parts = [] } ∷ [])));
  modules = [];
}

-- channel 2 lies between the two stages; the five workers read channels 3 to 7 and write channels
-- 8 to 12
abbrev pub farm_net : Net
farm_net = record {
  procs = record { kind = Source; node = 0; arg = 0; ins = []; outs = 0 ∷ [] }
      ∷ (record { kind = Sink; node = 0; arg = 0; ins = 1 ∷ []; outs = [] }
      ∷ (record { kind = Run; node = 1; arg = 0; ins = 0 ∷ []; outs = 2 ∷ [] }
      ∷ (record { kind = Emit; node = 2; arg = 0; ins = 2 ∷ []; outs = 3 ∷ (4 ∷ (5 ∷ (6 ∷ (7 ∷ [])))) }
      ∷ (record { kind = Collect; node = 2; arg = 0; ins = 8 ∷ (9 ∷ (10 ∷ (11 ∷ (12 ∷ [])))); outs = 1 ∷ [] }
      ∷ (record { kind = Run; node = 3; arg = 0; ins = 3 ∷ []; outs = 8 ∷ [] }
      ∷ (record { kind = Run; node = 3; arg = 0; ins = 4 ∷ []; outs = 9 ∷ [] }
      ∷ (record { kind = Run; node = 3; arg = 0; ins = 5 ∷ []; outs = 10 ∷ [] }
      ∷ (record { kind = Run; node = 3; arg = 0; ins = 6 ∷ []; outs = 11 ∷ [] }
      ∷ (record { kind = Run; node = 3; arg = 0; ins = 7 ∷ []; outs = 12 ∷ [] } ∷ [])))))))));
  chans = replicate 13 (record { cap = 4; credits = 0 });
}

pub record HandValues : Type 0 where
  pub one_process : linked_net (seq_tree [] 1 1) [] 4 ≡ seq_net
  pub a_farm_of_five : linked_net farm_tree (5 ∷ []) 4 ≡ farm_net
