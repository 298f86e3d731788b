-- The template of a map.
use Rattle.std.specs.Prelude.{◌≡◌, ℕ, ◌<◌, Option, suc, ◌+◌, ◌*◌, ◌-◌, ◌&&◌, List, length, get_or}
use Rattle.p3l_base.specs.declared.cut.Cut.{Cut}
use Rattle.p3l_base.specs.declared.outcome.Outcome.{Outcome}
use Rattle.p3l_skel.specs.declared.tree.Form.TheVariants.{Map}
use Rattle.p3l_skel.specs.declared.tree.Tree.{Tree}
use Rattle.p3l_skel.specs.Counts.{IsLawfulCount}
use Rattle.p3l_skel.specs.Tree.{node_at}
use Rattle.p3l_firing.specs.State.{State}
use Rattle.p3l_firing.specs.declared.process.Proc.{Proc}
use Rattle.p3l_firing.specs.declared.process.ProcKind.TheVariants.{Scatter, Gather}
use Rattle.p3l_firing.specs.declared.token.Token.{Token}
use Rattle.p3l_map.specs.Map.{Pieces, View, mapped, to_come, well_kept}
use Rattle.p3l_template.specs.Fan.{Fanned, fan_part, fan_shape, first_proc, last_proc}
use Rattle.p3l_template.specs.Part.{Part, line, no_part, all_orderly, due}
use Rattle.p3l_template.specs.Shape.{Blueprint, Role, Base}
use Rattle.p3l_template.specs.Sum.{sum_of}
use Rattle.p3l_template.specs.Units.{Units}
use Rattle.p3l_firing.specs.Nodes.{last_element, element_of, joined_of}

abbrev pub scatter_proc : ℕ → ℕ → Base → Proc
scatter_proc = first_proc Scatter

abbrev pub gather_proc : ℕ → ℕ → Base → Proc
gather_proc = last_proc Gather

abbrev pub pieces_of : Units → ℕ → ℕ → (Outcome → Outcome) → Pieces
pieces_of units node n f =
    record { number = suc (last_element units.tree node); lines = n; cut = element_of units.tree node; inner = f; join = joined_of units.tree node }

abbrev pub lines_of : List Part → State → ℕ → List Token
lines_of parts s w = line (get_or parts w no_part) s

abbrev pub view_of : Base → List Part → State → View
view_of base parts s =
    record {
      lines = lines_of parts s;
      held = (s.own (base.proc + 1)).held;
      sending = (s.own base.proc).held;
      sent = (s.own base.proc).number;
      input = s.tokens base.input;
      output = s.tokens base.output;
    }

-- a map of n workers, as the node of a skeleton
abbrev pub map_fanned : (node n : ℕ) → Fanned
map_fanned node n =
    record {
      meaning = λ units roles. mapped (pieces_of units node n (roles 0).meaning);
      firings = λ units roles. 2 + suc (last_element units.tree node) * ((roles 0).firings + 2);
      pending = λ units roles base parts s. to_come (pieces_of units node n (roles 0).meaning) (view_of base parts s);
      orderly = λ units roles base parts s.
          well_kept (pieces_of units node n (roles 0).meaning) (view_of base parts s) && all_orderly parts s;
      owed = λ units roles base parts s.
          sum_of (λ w. due (get_or parts w no_part) s + length (lines_of parts s w)) n
          + (length (s.own base.proc).held
          * ((suc (last_element units.tree node) - (s.own base.proc).number) * ((roles 0).firings + 2))
          + length (to_come (pieces_of units node n (roles 0).meaning) (view_of base parts s)));
    }

abbrev pub map_part : Units → ℕ → ℕ → (ℕ → Role) → Base → List Part → Part
map_part units node n roles base parts = fan_part n (map_fanned node n) units roles base parts

abbrev pub map_shape : (node n : ℕ) → Blueprint
map_shape node n = fan_shape Scatter Gather node n (map_fanned node n)

-- a node of a tree that is a map over n workers
pub record IsMapNode (tree : Tree) (node n : ℕ) : Type 0 where
  pub there : node < length tree.nodes
  pub clause : Option ℕ
  pub cut : Cut
  pub form : (node_at tree node).form ≡ Map clause cut
  pub count : IsLawfulCount (node_at tree node).form n
