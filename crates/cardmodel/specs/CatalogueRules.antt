-- The commands that alter the catalogue: users, objects and rights. They look at the catalogue alone.
use Rattle.std.specs.Prelude.{ℕ, ◌+◌, ◌-◌, Bool, cond, not, ◌&&◌, ◌||◌, List, [], ◌∷◌, ◌++◌, length, is_some, Some, None, Option, nat_le}
use Rattle.fields.specs.Column.{Column}
use Rattle.fields.specs.Reader.{Parameter}
use Rattle.commands.specs.declared.command.Profile.{Profile}
use Rattle.commands.specs.Command.{Selected, Permitted}
use Rattle.cardmodel.specs.Lists.{any, first}
use Rattle.cardmodel.specs.State.{Bytes, Id, Row, Register, User, a_table, a_view, Object, Rights, Grantee, Privilege, Catalogue, Rows, Cursor, absent, declared, on_row, ended, Card}
use Rattle.cardmodel.specs.Objects.{same, is_table, limit_of, named, object_named, table_named, columns_in, over_table, Window, window, shown_column}
use Rattle.cardmodel.specs.Registers.{has_space, with_one, without_some, with_changed}
use Rattle.cardmodel.specs.Rights.{admitted, named_by, joined, minus, within, some_right, owns, known, rank_of, rank_named, creates, creates_tables, grantee_of, same_grantee, grantee_known}
use Rattle.cardmodel.specs.Verdict.{Checked, passed, unless, unless_at, with_found, missing, not_allowed, foreign, taken, catalogue_full, store_refuses}
use Rattle.cardmodel.specs.Storing.{makes_table}

-- What such a command makes: another catalogue, and perhaps a table that has no rows from now on.
pub record Alteration : Type 0 where
  pub catalogue : Catalogue
  pub emptied : Option Bytes

-- the rows with those of one table replaced
abbrev pub with_rows : Rows → Bytes → List Row → Rows
with_rows rows t rs n = cond (same n t) rs (rows n)

abbrev pub with_emptied : Rows → Option Bytes → Rows
with_emptied rows None = rows
with_emptied rows (Some t) = with_rows rows t []

-- A cursor stays while its object stands.
abbrev pub stands : List Object → Object → Bool
stands os o = is_some (object_named os o.name)

unfoldable pub cursor_kept : List Object → Cursor → Cursor
cursor_kept os absent = absent
cursor_kept os (declared s) = cond (stands os s.object) (declared s) absent
cursor_kept os (on_row s i) = cond (stands os s.object) (on_row s i) absent
cursor_kept os (ended s) = cond (stands os s.object) (ended s) absent

-- the one exit of a command that alters the catalogue
abbrev pub altered : Card → Alteration → Card
altered c a = record {
  catalogue = a.catalogue;
  rows = with_emptied c.rows a.emptied;
  current = c.current;
  cursor = cursor_kept a.catalogue.objects.records c.cursor;
}

abbrev pub with_users : Catalogue → Register User → Alteration
with_users k r = record { catalogue = record { users = r; objects = k.objects; privileges = k.privileges; free = k.free }; emptied = None }

abbrev pub with_privileges : Catalogue → Register Privilege → Alteration
with_privileges k r = record { catalogue = record { users = k.users; objects = k.objects; privileges = r; free = k.free }; emptied = None }

abbrev pub with_object : Catalogue → Object → ℕ → Option Bytes → Alteration
with_object k o free emptied = record { catalogue = record { users = k.users; objects = with_one k.objects o; privileges = k.privileges; free = free }; emptied = emptied }

-- CREATE USER
unfoldable pub creating_user : Catalogue → Id → Parameter → Profile → Checked Alteration
creating_user k u id profile =
    unless (creates (rank_of k.users.records u) profile) not_allowed
    (unless (not (is_some (known k.users.records id.bytes))) (taken id.place)
    (unless (has_space k.users) catalogue_full
    (passed (with_users k (with_one k.users (record { id = id.bytes; rank = rank_named profile; creator = u }))))))

-- a definition has at most 200 bytes
abbrev pub short : Bytes → Bool
short definition = nat_le (length definition) 200

-- the longest row, as it is stored: a count, and for each column a length byte and the longest string
abbrev pub row_sum : List Column → ℕ
row_sum [] = 1
row_sum (c ∷ cs) = (c.longest + 1) + row_sum cs

-- CREATE TABLE
abbrev pub table_of : Bytes → Id → Bytes → ℕ → Object
table_of name u definition limit = record { name = name; owner = u; kind = a_table limit; definition = definition }

unfoldable pub creating_table : Catalogue → Id → Parameter → Bytes → ℕ → Checked Alteration
creating_table k u name definition limit =
    unless (creates_tables (rank_of k.users.records u)) not_allowed
    (unless (not (is_some (object_named k.objects.records name.bytes))) (taken name.place)
    (unless ((short definition && nat_le (row_sum (columns_in definition)) 240) && has_space k.objects) catalogue_full
    (unless (makes_table k limit) store_refuses
    (passed (with_object k (table_of name.bytes u definition limit) (k.free - limit) (Some name.bytes))))))

-- the first of some names that is no column which a window shows
abbrev pub first_foreign : Window → List Parameter → Option ℕ
first_foreign w [] = None
first_foreign w (p ∷ ps) = cond (is_some (shown_column w p.bytes)) (first_foreign w ps) (Some p.place)

-- the names in a selection: its columns, and then those of its conditions, which are three parameters each
abbrev pub condition_columns : List Parameter → List Parameter
condition_columns [] = []
condition_columns (c ∷ []) = []
condition_columns (c ∷ (o ∷ [])) = []
condition_columns (c ∷ (o ∷ (s ∷ ps))) = c ∷ condition_columns ps

abbrev pub names_in : Selected → List Parameter
names_in s = s.columns ++ condition_columns s.conditions

-- CREATE VIEW
abbrev pub view_of : Bytes → Id → Bytes → Object
view_of name u definition = record { name = name; owner = u; kind = a_view; definition = definition }

unfoldable pub creating_view : Catalogue → Id → Parameter → Bytes → Selected → Checked Alteration
creating_view k u name definition s =
    with_found (table_named k.objects.records s.source.bytes) (missing s.source.place) (λ t.
    unless (owns u t) not_allowed
    (unless_at (first_foreign (window k.objects.records t) (names_in s)) foreign
    (unless (not (is_some (object_named k.objects.records name.bytes))) (taken name.place)
    (unless (short definition && has_space k.objects) catalogue_full
    (passed (with_object k (view_of name.bytes u definition) k.free None))))))

-- DROP TABLE, DROP VIEW: what goes, goes with its rights
abbrev pub without : Catalogue → (Object → Bool) → ℕ → Option Bytes → Alteration
without k gone freed emptied = record {
  catalogue = record {
    users = k.users;
    objects = without_some k.objects gone;
    privileges = without_some k.privileges (λ p. any (λ o. gone o && named p.object o) k.objects.records);
    free = k.free + freed;
  };
  emptied = emptied;
}

-- a table takes its rows and its views with it
unfoldable pub dropping_table : Catalogue → Id → Parameter → Checked Alteration
dropping_table k u name =
    with_found (table_named k.objects.records name.bytes) (missing name.place) (λ o.
    unless (owns u o) not_allowed
    (passed (without k (over_table name.bytes) (limit_of o.kind) (Some name.bytes))))

abbrev pub view_named : List Object → Bytes → Option Object
view_named os n = first (λ o. named n o && not (is_table o)) os

unfoldable pub dropping_view : Catalogue → Id → Parameter → Checked Alteration
dropping_view k u name =
    with_found (view_named k.objects.records name.bytes) (missing name.place) (λ o.
    unless (owns u o) not_allowed
    (passed (without k (named name.bytes) 0 None)))

-- GRANT: the rights join the grantee's record
abbrev pub is_privilege : Bytes → Grantee → Privilege → Bool
is_privilege n g p = same p.object n && same_grantee p.grantee g

abbrev pub privilege_of : List Privilege → Bytes → Grantee → Option Privilege
privilege_of ps n g = first (is_privilege n g) ps

abbrev pub with_rights : Privilege → Rights → Privilege
with_rights p r = record { object = p.object; grantee = p.grantee; rights = r; owner = p.owner }

abbrev pub given : Register Privilege → Id → Bytes → Grantee → Rights → Option Privilege → Register Privilege
given ps u n g r None = with_one ps (record { object = n; grantee = g; rights = r; owner = u })
given ps u n g r (Some p) = with_changed ps (is_privilege n g) (λ q. with_rights q (joined q.rights r))

unfoldable pub granting : Catalogue → Id → Permitted → Checked Alteration
granting k u p =
    let g = grantee_of p.grantee.bytes in
    with_found (object_named k.objects.records p.object.bytes) (missing p.object.place) (λ o.
    unless (grantee_known k.users.records g) (missing p.grantee.place)
    (unless (owns u o) not_allowed
    (unless (within (named_by o.kind p.right) (admitted o.kind)) (foreign p.place)
    (unless (is_some (privilege_of k.privileges.records o.name g) || has_space k.privileges) catalogue_full
    (passed (with_privileges k (given k.privileges u o.name g (named_by o.kind p.right) (privilege_of k.privileges.records o.name g))))))))

-- REVOKE: the rights leave the grantee's record, which goes when it is empty
abbrev pub taken_back : Register Privilege → Bytes → Grantee → Rights → Privilege → Register Privilege
taken_back ps n g r p =
    cond (some_right (minus p.rights r))
    (with_changed ps (is_privilege n g) (λ q. with_rights q (minus q.rights r)))
    (without_some ps (is_privilege n g))

unfoldable pub revoking : Catalogue → Id → Permitted → Checked Alteration
revoking k u p =
    let g = grantee_of p.grantee.bytes in
    with_found (object_named k.objects.records p.object.bytes) (missing p.object.place) (λ o.
    unless (grantee_known k.users.records g) (missing p.grantee.place)
    (with_found (privilege_of k.privileges.records o.name g) (missing p.grantee.place) (λ q.
    unless (owns u o) not_allowed
    (unless (within (named_by o.kind p.right) (admitted o.kind)) (foreign p.place)
    (passed (with_privileges k (taken_back k.privileges o.name g (named_by o.kind p.right) q)))))))
