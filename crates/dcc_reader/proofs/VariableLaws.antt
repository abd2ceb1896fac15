-- Reading a local variable and a parameter, step by step.
use Rattle.std.proofs.Common.{◌≡◌, Bool, true, false, if◌then◌else◌, not, List, [], codes, Option, None, refl, ap, ◌∙◌}
use Rattle.dcc_c.specs.declared.syntax.CType.{CType}
use Rattle.dcc_c.specs.declared.syntax.Class.{Class}
use Rattle.dcc_c.specs.declared.syntax.Class.TheVariants.{Plain, Auto}
use Rattle.dcc_c.specs.Partial.{NumberAt, WordAt, PartialVariable}
use Rattle.dcc_c.specs.Reading.{Reader, Got, got, is_stopped, skip, sees_word, take_mark, take_name, take_type}
use Rattle.dcc_c.specs.ReadingStatements as s
use Rattle.dcc_reader.specs.Parts.{read_auto}

-- a variable of a function
abbrev pub with_init : List NumberAt → Option WordAt → Option CType → Class → Option NumberAt → Bool → PartialVariable
with_init init name type class size done =
    record { name = name; type = type; class = class; size = size; init = init; address = 0; done = done }

-- one that has no initial values
abbrev variable : Option WordAt → Option CType → Class → Option NumberAt → Bool → PartialVariable
variable name type class size done = with_init [] name type class size done

-- a local variable, from its size, its name, its type and its class on
abbrev sized : Class → Option CType → Option WordAt → Got (Option NumberAt) → Got PartialVariable
sized class type name size =
    let end = take_mark (codes ";") size.following in got (variable name type (s.class_with size.value class) size.value (not (is_stopped end))) end

abbrev named : Class → Option CType → Got (Option WordAt) → Got PartialVariable
named class type name = sized class type name.value (s.read_size name.following)

abbrev typed : Class → Got (Option CType) → Got PartialVariable
typed class type = named class type.value (take_name type.following)

abbrev classed : Got Class → Got PartialVariable
classed class = typed class.value (take_type class.following)

auto-split : (b : Bool) (r : Reader) → classed (if b then got Auto (skip r) else got Plain r)
    ≡ typed (if b then Auto else Plain) (take_type (if b then skip r else r))
auto-split true r = refl
auto-split false r = refl

pub local-read : (r following held called bounded end : Reader) (class final : Class) (type : Option CType) (name : Option WordAt)
    (size : Option NumberAt) (init : List NumberAt) (stopped : Bool) → init ≡ [] →
    got class following ≡ read_auto r → got type held ≡ take_type following → got name called ≡ take_name held → got size bounded ≡ s.read_size called →
    end ≡ take_mark (codes ";") bounded → stopped ≡ is_stopped end → final ≡ s.class_with size class →
    got (with_init init name type final size (not stopped)) end ≡ s.read_local r
local-read r following held called bounded end class final type name size init stopped none classes types names sizes ends stops finals =
    ap (λ i. got (with_init i name type final size (not stopped)) end) none
    ∙ ap (λ b. got (variable name type final size (not b)) end) stops
    ∙ ap (λ c. got (variable name type c size (not (is_stopped end))) end) finals
    ∙ ap (λ e. got (variable name type (s.class_with size class) size (not (is_stopped e))) e) ends
    ∙ ap (sized class type name) sizes
    ∙ ap (named class type) names
    ∙ ap (typed class) types
    ∙ ap classed classes
    ∙ auto-split (sees_word (codes "auto") r) r

-- a parameter, from its name and its type on
abbrev param_named : Class → Option CType → Got (Option WordAt) → Got PartialVariable
param_named class type name = got (variable name.value type class None (not (is_stopped name.following))) name.following

abbrev param_typed : Class → Got (Option CType) → Got PartialVariable
param_typed class type = param_named class type.value (take_name type.following)

pub param-read : (r following held called : Reader) (class : Class) (type : Option CType) (name : Option WordAt) (init : List NumberAt) (stopped : Bool) → init ≡ [] →
    got class following ≡ s.read_class r → got type held ≡ take_type following → got name called ≡ take_name held → stopped ≡ is_stopped called →
    got (with_init init name type class None (not stopped)) called ≡ s.read_param r
param-read r following held called class type name init stopped none classes types names stops =
    ap (λ i. got (with_init i name type class None (not stopped)) called) none
    ∙ ap (λ b. got (variable name type class None (not b)) called) stops
    ∙ ap (param_named class type) names
    ∙ ap (param_typed class) types
    ∙ ap (λ (g : Got Class). param_typed g.value (take_type g.following)) classes
