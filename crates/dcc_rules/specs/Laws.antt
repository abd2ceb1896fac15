-- Laws of the forms.
use Rattle.std.specs.Prelude.{◌≡◌, ℕ, true, List}
use Rattle.dcc_ir.specs.Tree.{Expr}
use Rattle.dcc_ir.specs.WellFormed.{is_expr}
use Rattle.dcc_ir.specs.Forms.{has_form}
use Rattle.dcc_rules.specs.Forms.{has_form_under}

-- a well-formed expression that has a form by the widths that it tells has it under the widths of temporaries
abbrev pub ToldFormsStand : Type 0
ToldFormsStand = (id : ℕ) (bits : List ℕ) (e : Expr) → is_expr bits e ≡ true → has_form id e ≡ true
    → has_form_under id bits e ≡ true
