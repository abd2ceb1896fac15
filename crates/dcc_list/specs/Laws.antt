-- Laws of listings, for every text and program.
use Rattle.std.specs.Prelude.{ℕ, List}
use Rattle.dcc_machine.specs.declared.image.Image.{Image}
use Rattle.dcc_machine.specs.MzImage.{IsLoaded}
use Rattle.dcc_prog.specs.declared.frame.Program.{Program}
use Rattle.dcc_list.specs.Text.{StandsFor}
use Rattle.dcc_list.specs.Listed.{IsListing}

-- the listing of a program's image is a listing of the image's bytes
abbrev pub ListingStandsForImage : Type 0
ListingStandsForImage =
    (image : Image) (program : Program) (text : List ℕ) → IsLoaded image → IsListing image program text
    → StandsFor text image.bytes.items
