-- A new card is sound, and PRESENT USER keeps a card sound.
use Rattle.std.proofs.Common.{◌≡◌, ℕ, zero, suc, min, is_some, refl, arith}
use Rattle.fields.specs.Reader.{Parameter}
use Rattle.cardmodel.specs.State.{Card}
use Rattle.cardmodel.specs.Rights.{known}
use Rattle.cardmodel.specs.Answer.{Capacities, at_most_64, presenting, new_card}
use Rattle.cardmodel.proofs.Checks.{Holds, holds_unless}
use Rattle.cardlaws.specs.Sound.{Apart, one_id, Sized, Sound}

pub presenting_sound : (total : ℕ) (z : Capacities) (c : Card) → Sound total z c → (id : Parameter) → Holds (λ d. Sound total z d.card) (presenting c id)
unfolding presenting
presenting_sound total z c sound id =
    holds_unless (λ d. Sound total z d.card) (is_some (known c.catalogue.users.records id.bytes)) _ _ (λ e.
    record {
      names = sound.names;
      ids = sound.ids;
      pairs = sound.pairs;
      objects = sound.objects;
      privileges = sound.privileges;
      rows = sound.rows;
      elsewhere = sound.elsewhere;
      tables = sound.tables;
      sum = sound.sum;
      users_sized = sound.users_sized;
      objects_sized = sound.objects_sized;
      privileges_sized = sound.privileges_sized;
      current = e;
      cursor = tt;
    })

-- OWNER is alone, or nobody is registered
owner_alone : (rows : ℕ) (z : Capacities) (n : ℕ) → at_most_64 z.users ≡ n → Apart one_id (new_card rows z).catalogue.users.records × Sized (new_card rows z).catalogue.users z.users
owner_alone rows z zero e = rw e (tt, refl)
owner_alone rows z (suc n) e = rw e ((refl, tt), omega arith)

pub new_sound : (rows : ℕ) (z : Capacities) → Sound (min rows 65535) z (new_card rows z)
new_sound rows z =
    let users = owner_alone rows z (at_most_64 z.users) refl in
    record {
      names = tt;
      ids = users.0;
      pairs = tt;
      objects = tt;
      privileges = tt;
      rows = tt;
      elsewhere = λ t e. refl;
      tables = omega arith;
      sum = omega arith;
      users_sized = users.1;
      objects_sized = omega arith;
      privileges_sized = omega arith;
      current = tt;
      cursor = tt;
    }
