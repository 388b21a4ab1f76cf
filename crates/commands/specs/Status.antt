-- The status word of each fault, its cause, layer and place.
use Rattle.std.specs.Prelude.{ℕ}
use Rattle.apdu.specs.declared.envelope.EnvelopeFault.TheVariants.{Area, NoApdu, Class, Instruction, P1, P2, Shape}
use Rattle.commands.specs.declared.parse.CommandFault.{CommandFault}
use Rattle.commands.specs.declared.parse.CommandFault.TheVariants.{Envelope, Field}
use Rattle.commands.specs.declared.status.Status.{Status}

-- the first layer has no place to tell
abbrev in_envelope : ℕ → ℕ → Status
in_envelope word cause = record { word = word; cause = cause; layer = 1; place = 0 }

abbrev pub status : CommandFault → Status
status (Envelope Area) = in_envelope 0x6500 1
status (Envelope NoApdu) = in_envelope 0x6700 2
status (Envelope Class) = in_envelope 0x6E00 3
status (Envelope Instruction) = in_envelope 0x6D00 4
status (Envelope P1) = in_envelope 0x6A00 5
status (Envelope P2) = in_envelope 0x6A81 6
status (Envelope Shape) = in_envelope 0x6700 7
status (Field f) = record { word = 0x6A80; cause = 9; layer = 2; place = f.place }
