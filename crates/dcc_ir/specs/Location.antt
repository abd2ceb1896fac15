-- Locations: which are the same, how wide they are, and what they hold.
use Rattle.std.specs.Prelude.{ℕ, ◌+◌, ◌-◌, ◌%◌, ◌^◌, ◌==◌, ◌&&◌, nat_le, Bool, false, if◌then◌else◌, List, get_or}
use Rattle.dcc_num.specs.declared.Reg.{Reg}
use Rattle.dcc_num.specs.declared.Reg.TheVariants.{Ax, Cx, Dx, Bx, Sp, Bp, Si, Di}
use Rattle.dcc_num.specs.declared.Half.{Half as HalfName}
use Rattle.dcc_num.specs.declared.Half.TheVariants.{Low, High}
use Rattle.dcc_num.specs.declared.FlagName.{FlagName}
use Rattle.dcc_num.specs.declared.FlagName.TheVariants.{Cf, Zf, Sf, Of}
use Rattle.dcc_ir.specs.declared.syntax.Loc.{Loc}
use Rattle.dcc_ir.specs.declared.syntax.Loc.TheVariants.{Half, Flag, Cell, Temp}

-- the place of a register, a half and a flag in their lists
abbrev pub register_number : Reg → ℕ
register_number Ax = 0
register_number Cx = 1
register_number Dx = 2
register_number Bx = 3
register_number Sp = 4
register_number Bp = 5
register_number Si = 6
register_number Di = 7

abbrev pub half_number : HalfName → ℕ
half_number Low = 0
half_number High = 1

abbrev pub flag_number : FlagName → ℕ
flag_number Cf = 0
flag_number Zf = 1
flag_number Sf = 2
flag_number Of = 3

-- the two are the same location
abbrev pub same_location : Loc → Loc → Bool
same_location (Half r h) (Half r' h') = (register_number r == register_number r') && (half_number h == half_number h')
same_location (Flag f) (Flag f') = flag_number f == flag_number f'
same_location (Cell n h) (Cell n' h') = (n == n') && (half_number h == half_number h')
same_location (Temp n) (Temp n') = n == n'
same_location _ _ = false

-- how many bits a location has, where the temporaries have these
abbrev pub location_width : List ℕ → Loc → ℕ
location_width bits (Half r h) = 8
location_width bits (Flag f) = 1
location_width bits (Cell n h) = 8
location_width bits (Temp n) = get_or bits n 0

-- what each location of a call holds
abbrev pub Values : Type 0
Values = Loc → ℕ

-- the values after a location has taken one
abbrev pub with_value : Values → Loc → ℕ → Values
with_value values location v = λ other. if same_location other location then v else values other

-- a word, cut or sign-extended to a width
abbrev pub fill_at : ℕ → ℕ → ℕ
fill_at width fill = (if nat_le 0x8000 fill then fill + (2 ^ 32 - 2 ^ 16) else fill) % 2 ^ width

-- each location holds the fill, cut or sign-extended to its width
abbrev pub filled : List ℕ → ℕ → Values
filled bits fill = λ location. fill_at (location_width bits location) fill
