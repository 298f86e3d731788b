-- The rules of bodies do not depend on positions.
use Rattle.std.proofs.Common.{◌≡◌, ℕ, ◌+◌, ◌==◌, ◌&&◌, not, Bool, true, false, List, [], ◌∷◌, ◌++◌, map, Option, Some, None, refl, ap, sym, ◌∙◌, nat_le, nat_lt}
use Rattle.std.specs.Prelude.{is_some, option_map}
use Rattle.std.proofs.lemmas.List.{map-append}
use Rattle.p3l_ast.specs.declared.position.Spot.{Spot}
use Rattle.p3l_ast.specs.declared.position.Pos.{Pos}
use Rattle.p3l_ast.specs.declared.refusal.Fault.{Fault}
use Rattle.p3l_ast.specs.declared.refusal.Fault.TheVariants.{TooWide, BadWorkers, Twice, DeclaredTwice, NotArray, IsArray, WriteToIn}
use Rattle.p3l_ast.specs.declared.port.Num.{Num}
use Rattle.p3l_ast.specs.declared.port.Port.{Port}
use Rattle.p3l_ast.specs.declared.module.Rescue.{Rescue}
use Rattle.p3l_ast.specs.Tree.{Phrase, number, read, unary, binary, Phrases, none, more, Statements, done, assign, if_, if_else, while_, for_, InsideTree, body, calls, turning, ModuleTree}
use Rattle.p3l_ast.specs.Unplaced.{nowhere, spot_unplaced, num_unplaced, port_unplaced, rescue_unplaced, phrase_unplaced, phrases_unplaced, statements_unplaced, inside_unplaced, module_unplaced}
use Rattle.p3l_types.specs.Constants.{Constants, place_of, natural}
use Rattle.p3l_types.specs.Shape.{product}
use Rattle.p3l_body.specs.declared.ports.Ports.{Ports}
use Rattle.p3l_body.specs.declared.scope.Known.{Known}
use Rattle.p3l_body.specs.Scope.{Names, named, known_of, fresh, measured, declared_one, declared}
use Rattle.p3l_body.specs.Mention.{Mention, mention, brackets_of, mentions, index_mentions, place_mentions, assignment_mentions, code_mentions, mention_rule, mentions_rule}
use Rattle.p3l_body.specs.Seq.{ports_of, port_names, limited, budget_of, rescue_of, checked_locals, checked_body, checked_seq}
use Rattle.p3l_position_laws.specs.Forgetting.{forget, settled}
use Rattle.p3l_position_laws.specs.Bodies.{seq_unplaced}
use Rattle.p3l_position_laws.proofs.Forgetting.{passes, settles, broken_passes, if_passes, else_passes, first_passes}
use Rattle.p3l_position_laws.proofs.Types.{number_passes, is_nowhere, shape_passes}

measured_passes : (constants : Constants) (words : ℕ) (port : Port) → measured constants words (port_unplaced port) ≡ forget (measured constants words port)
measured_passes constants words port =
    passes _ _ _ _ (shape_passes constants port)
    (λ shape. else_passes (nat_lt 65536 (words + product shape.sizes)) (record { name = port.at.name; shape = shape }) TooWide port.at.pos nowhere refl)

fresh_passes : (fault : Fault) (constants : Constants) (names : Names) (spot : Spot) → fresh fault constants names (spot_unplaced spot) ≡ forget (fresh fault constants names spot)
fresh_passes fault constants names spot = broken_passes (is_some (known_of constants names spot.name)) _ fault spot.pos refl

pub one_passes : (fault : Fault) (constants : Constants) (names : Names) (words : ℕ) (port : Port) → declared_one fault constants names words (port_unplaced port) ≡ forget (declared_one fault constants names words port)
one_passes fault constants names words port =
    passes _ _ _ _ (measured_passes constants words port) (λ var. passes _ _ _ _ (fresh_passes fault constants names port.at) (λ x. refl))

pub declared_passes : (fault : Fault) (is_fixed : Bool) (constants : Constants) (names : Names) (words : ℕ) (ports : List Port) → declared fault is_fixed constants names words (map port_unplaced ports) ≡ forget (declared fault is_fixed constants names words ports)
declared_passes fault is_fixed constants names words [] = refl
declared_passes fault is_fixed constants names words (port ∷ ports) =
    passes _ _ _ _ (one_passes fault constants names words port)
    (λ var. passes _ _ _ _ (declared_passes fault is_fixed constants (names ++ named is_fixed var ∷ []) (words + product var.shape.sizes) ports)
    (λ vars. refl))

pub ports_pass : (constants : Constants) (ins outs : List Port) → ports_of constants (map port_unplaced ins) (map port_unplaced outs) ≡ forget (ports_of constants ins outs)
ports_pass constants ins outs =
    passes _ _ _ _ (declared_passes Twice true constants [] 0 ins)
    (λ vars. passes _ _ _ _ (declared_passes Twice false constants (map (named true) vars) 0 outs) (λ others. refl))

pub limited_passes : (low high : ℕ) (constants : Constants) (num : Num) → limited low high constants (num_unplaced num) ≡ forget (limited low high constants num)
limited_passes low high constants num =
    passes _ _ _ _ (number_passes constants num)
    (λ value. if_passes (nat_le low (natural value) && nat_le (natural value) high) (natural value) BadWorkers (place_of num) (place_of (num_unplaced num)) (is_nowhere num))

pub budget_passes : (constants : Constants) (clause : Option Num) → budget_of constants (option_map num_unplaced clause) ≡ forget (budget_of constants clause)
budget_passes constants None = refl
budget_passes constants (Some num) = limited_passes 1 100000000 constants num

pub rescue_passes : (constants : Constants) (clause : Option Rescue) → rescue_of constants (option_map rescue_unplaced clause) ≡ forget (rescue_of constants clause)
rescue_passes constants None = refl
rescue_passes constants (Some rescue) = passes _ _ _ _ (number_passes constants rescue.num) (λ value. refl)

abbrev mention_unplaced : Mention → Mention
mention_unplaced m = record { at = spot_unplaced m.at; brackets = m.brackets; is_assigned = m.is_assigned }

brackets_same : (index : Phrases) → brackets_of (phrases_unplaced index) ≡ brackets_of index
brackets_same none = refl
brackets_same (more e index) = ap (λ n. n + 1) (brackets_same index)

both : (us bs : List Mention) (cs ds : List Mention) → cs ≡ map mention_unplaced us → ds ≡ map mention_unplaced bs → cs ++ ds ≡ map mention_unplaced (us ++ bs)
both us bs cs ds p q = ap (λ t. t ++ ds) p ∙ ap (λ t. map mention_unplaced us ++ t) q ∙ sym (map-append mention_unplaced us bs)

mention_first : (is_assigned : Bool) (x : Spot) (index : Phrases) (us bs : List Mention) → bs ≡ map mention_unplaced us
    → mention is_assigned (spot_unplaced x) (phrases_unplaced index) ∷ bs ≡ map mention_unplaced (mention is_assigned x index ∷ us)
mention_first is_assigned x index us bs e = let p = brackets_same index in cc

mutual
  unfolding mentions index_mentions

  mentions_same : (e : Phrase) → mentions (phrase_unplaced e) ≡ map mention_unplaced (mentions e)
  mentions_same (number value) = refl
  mentions_same (read x index) = mention_first false x index (index_mentions index) (index_mentions (phrases_unplaced index)) (indices_same index)
  mentions_same (unary op e) = mentions_same e
  mentions_same (binary op a b) = both (mentions a) (mentions b) _ _ (mentions_same a) (mentions_same b)

  indices_same : (index : Phrases) → index_mentions (phrases_unplaced index) ≡ map mention_unplaced (index_mentions index)
  indices_same none = refl
  indices_same (more e index) = both (mentions e) (index_mentions index) _ _ (mentions_same e) (indices_same index)

place_same : (is_assigned : Bool) (x : Spot) (index : Phrases) → place_mentions is_assigned (spot_unplaced x) (phrases_unplaced index) ≡ map mention_unplaced (place_mentions is_assigned x index)
place_same is_assigned x index = mention_first is_assigned x index (index_mentions index) (index_mentions (phrases_unplaced index)) (indices_same index)

assignment_same : (x : Spot) (index : Phrases) (e : Phrase) → assignment_mentions (spot_unplaced x) (phrases_unplaced index) (phrase_unplaced e) ≡ map mention_unplaced (assignment_mentions x index e)
assignment_same x index e = both (place_mentions true x index) (mentions e) _ _ (place_same true x index) (mentions_same e)

code_same : (c : Statements) → code_mentions (statements_unplaced c) ≡ map mention_unplaced (code_mentions c)
unfolding code_mentions
code_same done = refl
code_same (assign x index e next) = both (assignment_mentions x index e) (code_mentions next) _ _ (assignment_same x index e) (code_same next)
code_same (if_ e if_so next) =
    both (mentions e ++ code_mentions if_so) (code_mentions next) _ _ (both (mentions e) (code_mentions if_so) _ _ (mentions_same e) (code_same if_so)) (code_same next)
code_same (if_else e if_so if_not next) =
    both (mentions e ++ (code_mentions if_so ++ code_mentions if_not)) (code_mentions next) _ _
    (both (mentions e) (code_mentions if_so ++ code_mentions if_not) _ _ (mentions_same e)
    (both (code_mentions if_so) (code_mentions if_not) _ _ (code_same if_so) (code_same if_not)))
    (code_same next)
code_same (while_ e b next) =
    both (mentions e ++ code_mentions b) (code_mentions next) _ _ (both (mentions e) (code_mentions b) _ _ (mentions_same e) (code_same b)) (code_same next)
code_same (for_ x index e w y indices f b next) =
    both (assignment_mentions x index e ++ (mentions w ++ (assignment_mentions y indices f ++ code_mentions b))) (code_mentions next) _ _
    (both (assignment_mentions x index e) (mentions w ++ (assignment_mentions y indices f ++ code_mentions b)) _ _ (assignment_same x index e)
    (both (mentions w) (assignment_mentions y indices f ++ code_mentions b) _ _ (mentions_same w)
    (both (assignment_mentions y indices f) (code_mentions b) _ _ (assignment_same y indices f) (code_same b))))
    (code_same next)

rule_passes : (o : Option Known) (m : Mention) → mention_rule o (mention_unplaced m) ≡ forget (mention_rule o m)
rule_passes None m = refl
rule_passes (Some known) m =
    first_passes _ _ _ _ (broken_passes (m.is_assigned && known.is_fixed) _ WriteToIn m.at.pos refl)
    (first_passes _ _ _ _ (broken_passes (known.sizes == 0 && nat_lt 0 m.brackets) _ NotArray m.at.pos refl)
    (first_passes _ _ _ _ (broken_passes (nat_lt 0 known.sizes && not (known.sizes == m.brackets)) _ IsArray m.at.pos refl) refl))

rules_pass : (constants : Constants) (names : Names) (ms : List Mention) → mentions_rule constants names (map mention_unplaced ms) ≡ forget (mentions_rule constants names ms)
unfolding mentions_rule
rules_pass constants names [] = refl
rules_pass constants names (m ∷ ms) = first_passes _ _ _ _ (rule_passes (known_of constants names m.at.name) m) (rules_pass constants names ms)

locals_pass : (constants : Constants) (names : Names) (ports : List Port) (c : Statements) → checked_locals constants names (map port_unplaced ports) (statements_unplaced c) ≡ forget (checked_locals constants names ports c)
locals_pass constants names ports c =
    passes _ _ _ _ (declared_passes DeclaredTwice false constants names 0 ports)
    (λ vars. passes _ _ _ _
    (ap (mentions_rule constants (names ++ map (named false) vars)) (code_same c) ∙ rules_pass constants (names ++ map (named false) vars) (code_mentions c))
    (λ x. refl))

body_settles : (constants : Constants) (home : ℕ) (ports : Ports) (budget : ℕ) (pos : Pos) (inside : InsideTree) → checked_body constants home ports budget nowhere (inside_unplaced inside) ≡ settled seq_unplaced (checked_body constants home ports budget pos inside)
body_settles constants home ports budget pos (body ls c) = settles _ _ _ _ _ (locals_pass constants (port_names ports) ls c) (λ locals. refl)
body_settles constants home ports budget pos (calls cs) = refl
body_settles constants home ports budget pos (turning c d) = refl

-- the checked body of a `seq` module
pub seq_settles : (constants : Constants) (home : ℕ) (m : ModuleTree) → checked_seq constants home (module_unplaced m) ≡ settled seq_unplaced (checked_seq constants home m)
seq_settles constants home m =
    settles _ _ _ _ _ (ports_pass constants m.ins m.outs)
    (λ ports. settles _ _ _ _ _ (budget_passes constants m.clauses.budget)
    (λ budget. settles _ _ _ _ _ (rescue_passes constants m.clauses.rescue)
    (λ rescue. body_settles constants home ports budget m.at.pos m.inside)))
