-- The forms of the rewritings that are known by a number, where the widths of temporaries are told.
use Rattle.std.specs.Prelude.{ℕ, ◌+◌, ◌==◌, Bool, true, false, ◌&&◌, not, if◌then◌else◌, List, drop}
use Rattle.std.specs.List.{list_all}
use Rattle.dcc_ir.specs.Tree.{Expr, Const, Get, Widen, Part, Join, Address}
use Rattle.dcc_ir.specs.Value.{width_of}
use Rattle.dcc_ir.specs.Use.{parts_of}
use Rattle.dcc_ir.specs.Forms.{same_expr, has_form}

-- the expression is just the lower half of a Join
abbrev pub is_low_half : List ℕ → Expr → Bool
is_low_half bits (Part width first (Join high low)) = first == 0 && width_of bits low == width
is_low_half bits _ = false

-- the expression is just the upper half of a Join
abbrev pub is_high_half : List ℕ → Expr → Bool
is_high_half bits (Part width first (Join high low)) = first == width && width_of bits high == width
is_high_half bits _ = false

-- the expression joins the two halves of one expression
abbrev pub is_joined_again : List ℕ → Expr → Bool
is_joined_again bits (Join (Part width first x) (Part width' first' x')) =
    width == width' && first == width && first' == 0 && same_expr x x' && width_of bits x == width + width
is_joined_again bits _ = false

-- the expression is a Part that takes all bits of its operand
abbrev pub is_whole : List ℕ → Expr → Bool
is_whole bits (Part width first x) = first == 0 && width_of bits x == width
is_whole bits _ = false

-- the expression is what was widened
abbrev pub is_narrowed_again : List ℕ → Expr → Bool
is_narrowed_again bits (Part width first (Widen signed width' x)) = first == 0 && width_of bits x == width
is_narrowed_again bits _ = false

-- The expression has the form of that number under these widths. Where the forms 35 to 39 speak of the width of an
-- expression, it is the width under them.
abbrev pub has_form_under : ℕ → List ℕ → Expr → Bool
has_form_under id bits e =
    if id == 35 then is_low_half bits e
    else if id == 36 then is_high_half bits e
    else if id == 37 then is_joined_again bits e
    else if id == 38 then is_whole bits e
    else if id == 39 then is_narrowed_again bits e
    else has_form id e

-- the expression has no part but itself
abbrev pub is_leaf : Expr → Bool
is_leaf (Const width n) = true
is_leaf (Get location) = true
is_leaf (Address distance) = true
is_leaf _ = false

-- the expression has the form of none of the numbers
abbrev pub has_no_form : List ℕ → List ℕ → Expr → Bool
has_no_form ids bits e = list_all (λ id. not (has_form_under id bits e)) ids

-- no part of the expression has the form of one of the numbers
abbrev pub is_normal_under : List ℕ → List ℕ → Expr → Bool
is_normal_under ids bits e = list_all (has_no_form ids bits) (parts_of e)

-- no part of the expression but itself has the form of one of the numbers
abbrev pub has_normal_parts : List ℕ → List ℕ → Expr → Bool
has_normal_parts ids bits e = list_all (has_no_form ids bits) (drop 1 (parts_of e))
