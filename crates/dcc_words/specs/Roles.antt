-- How code keeps what locations become. No public contract rests on it.
use Rattle.std.specs.Prelude.{List, get_or}
use Rattle.dcc_ir.specs.declared.syntax.Loc.{Loc}
use Rattle.dcc_ir.specs.declared.syntax.Loc.TheVariants.{Temp}
use Rattle.dcc_words.specs.declared.roles.Role.{Role}
use Rattle.dcc_words.specs.declared.roles.Role.TheVariants.{Alone}
use Rattle.dcc_words.specs.declared.roles.Roles.{Roles}

abbrev pub role_at : List Role → Loc → Role
role_at of (Temp n) = get_or of n Alone
role_at of _ = Alone

abbrev pub role_of : Roles → Loc → Role
role_of roles = role_at roles.of.items
