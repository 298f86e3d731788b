-- The tables of the slices of maps and of their dimensions.
use Rattle.std.specs.Prelude.{ℕ, List, [], ◌++◌, codes, length}
use Rattle.std.specs.Fmt.{decimal}
use Rattle.std.specs.List.{flat_map}
use Rattle.p3l_base.specs.declared.slice.Dim.{Dim}
use Rattle.p3l_base.specs.declared.slice.Place.{Place}
use Rattle.p3l_base.specs.declared.slice.Place.TheVariants.{Rest, First, Second}
use Rattle.p3l_base.specs.declared.slice.Slice.{Slice}
use Rattle.p3l_skel.specs.declared.tree.Form.{Form}
use Rattle.p3l_skel.specs.declared.tree.Form.TheVariants.{Seq, Comp, Pipe, Farm, Map, Reduce, Loop}
use Rattle.p3l_skel.specs.declared.tree.Node.{Node}
use Rattle.p3l_export.specs.Lines.{closed_table}

-- the engine's name of a place
abbrev pub place_name : Place → List ℕ
place_name Rest = codes "PLACE_REST"
place_name First = codes "PLACE_FIRST"
place_name Second = codes "PLACE_SECOND"

-- the row of a slice: its first word, and how many dimensions it has
abbrev pub slice_line : Slice → List ℕ
slice_line slice = codes "    { " ++ (decimal slice.start ++ (codes ", " ++ (decimal (length slice.dims) ++ codes " },\n")))

-- the row of a dimension: its size and its place
abbrev pub dim_line : Dim → List ℕ
dim_line dim = codes "    { " ++ (decimal dim.size ++ (codes ", " ++ (place_name dim.place ++ codes " },\n")))

-- the rows of a slice's dimensions
abbrev pub dims_lines : Slice → List ℕ
dims_lines slice = flat_map dim_line slice.dims

-- the text of the slices of a form, given the text of each slice: those in, then those out
abbrev pub form_slices : (Slice → List ℕ) → Form → List ℕ
form_slices text Seq = []
form_slices text Comp = []
form_slices text Pipe = []
form_slices text (Farm w) = []
form_slices text (Map w cut) = flat_map text cut.ins ++ flat_map text cut.outs
form_slices text (Reduce w len elem) = []
form_slices text (Loop turns tokens) = []

-- the rows of the slices of a node
abbrev pub node_slices : Node → List ℕ
node_slices node = form_slices slice_line node.form

-- the rows of their dimensions
abbrev pub node_dims : Node → List ℕ
node_dims node = form_slices dims_lines node.form

-- the table of the slices
unfoldable pub slices_text : List Node → List ℕ
slices_text nodes =
    closed_table (codes "first word, dimensions: of the slices of each map, in and then out") (codes "struct slice_row SLICE")
    (flat_map node_slices nodes) (codes "{ 0, 0 }")

-- the table of their dimensions
unfoldable pub dims_text : List Node → List ℕ
dims_text nodes =
    closed_table (codes "size, place: of the dimensions of each slice") (codes "struct dim_row DIM") (flat_map node_dims nodes)
    (codes "{ 0, PLACE_REST }")
