-- The codes of profiles and rights, and their words.
use Rattle.std.specs.Prelude.{ℕ, Bool, cond, ◌&&◌, List, length, Some, None, Option, codes, ◌==◌, slice_index}
use Rattle.commands.specs.declared.command.Profile.{Profile}
use Rattle.commands.specs.declared.command.Profile.TheVariants.{ObjectOwner, BasicUser}
use Rattle.commands.specs.declared.command.Right.{Right}
use Rattle.commands.specs.declared.command.Right.TheVariants.{Insert, Select, Update, Delete, All}

-- a text of four given characters
abbrev spells : ℕ → ℕ → ℕ → ℕ → List ℕ → Bool
spells a b c d text = length text == 4 && (slice_index text 0 == a && (slice_index text 1 == b && (slice_index text 2 == c && slice_index text 3 == d)))

-- DBOO and DBBU
abbrev pub profile_of : List ℕ → Option Profile
profile_of text = cond (spells 0x44 0x42 0x4F 0x4F text) (Some ObjectOwner) (cond (spells 0x44 0x42 0x42 0x55 text) (Some BasicUser) None)

abbrev pub right_of : ℕ → Option Right
right_of code =
    cond (code == 0x41) (Some Insert) (cond (code == 0x42) (Some Select) (cond (code == 0x44) (Some Update)
    (cond (code == 0x48) (Some Delete) (cond (code == 0x4F) (Some All) None))))

-- the text that names a profile, and the word of a right
abbrev pub profile_word : Profile → List ℕ
profile_word ObjectOwner = codes "DBOO"
profile_word BasicUser = codes "DBBU"

abbrev pub right_word : Right → List ℕ
right_word Insert = codes "INSERT"
right_word Select = codes "SELECT"
right_word Update = codes "UPDATE"
right_word Delete = codes "DELETE"
right_word All = codes "ALL"
