-- Who may do what.
use Rattle.std.specs.Prelude.{Bool, true, false, cond, not, ◌&&◌, ◌||◌, List, [], ◌∷◌, is_some, Some, None, Option}
use Rattle.commands.specs.declared.command.Profile.{Profile}
use Rattle.commands.specs.declared.command.Profile.TheVariants.{ObjectOwner, BasicUser}
use Rattle.commands.specs.declared.command.Right.{Right}
use Rattle.commands.specs.declared.command.Right.TheVariants.{Insert, Select, Update, Delete, All}
use Rattle.cardmodel.specs.Lists.{any, first}
use Rattle.cardmodel.specs.State.{Bytes, Id, Rank, database_owner, object_owner, basic_user, User, Kind, a_table, a_view, Object, Rights, Grantee, all_users, user, Privilege}
use Rattle.cardmodel.specs.Objects.{same}

-- ids are the same if their bytes are
abbrev pub same_id : Id → Id → Bool
same_id x y = same x y

-- what an object of a kind admits, and what a code names of it
abbrev pub admitted : Kind → Rights
admitted (a_table limit) = record { insert = true; select = true; update = true; delete = true }
admitted a_view = record { insert = false; select = true; update = true; delete = false }

abbrev pub named_by : Kind → Right → Rights
named_by k Insert = record { insert = true; select = false; update = false; delete = false }
named_by k Select = record { insert = false; select = true; update = false; delete = false }
named_by k Update = record { insert = false; select = false; update = true; delete = false }
named_by k Delete = record { insert = false; select = false; update = false; delete = true }
named_by k All = admitted k

-- all rights of both, and those of the first without those of the second
abbrev pub joined : Rights → Rights → Rights
joined a b = record { insert = a.insert || b.insert; select = a.select || b.select; update = a.update || b.update; delete = a.delete || b.delete }

abbrev pub minus : Rights → Rights → Rights
minus a b = record { insert = a.insert && not b.insert; select = a.select && not b.select; update = a.update && not b.update; delete = a.delete && not b.delete }

-- every right of the first is one of the second
abbrev implies : Bool → Bool → Bool
implies a b = not a || b

abbrev pub within : Rights → Rights → Bool
within a b = (implies a.insert b.insert && implies a.select b.select) && (implies a.update b.update && implies a.delete b.delete)

abbrev pub some_right : Rights → Bool
some_right r = (r.insert || r.select) || (r.update || r.delete)

-- a grantee fits a user: it is all users, or that one
abbrev pub fits : Grantee → Id → Bool
fits all_users u = true
fits (user id) u = same_id id u

-- some privilege on an object fits a user and has a right of a kind
unfoldable pub granted : List Privilege → Id → Bytes → (Rights → Bool) → Bool
granted ps u object right = any (λ p. (same p.object object && fits p.grantee u) && right p.rights) ps

abbrev pub owns : Id → Object → Bool
owns u o = same_id o.owner u

-- An owner has every right that its object admits; another user those of them that it was granted.
unfoldable pub may : List Privilege → Id → Object → (Rights → Bool) → Bool
may ps u o right = right (admitted o.kind) && (owns u o || granted ps u o.name right)

-- A user reaches what it owns or holds some right on.
unfoldable pub reaches : List Privilege → Id → Object → Bool
reaches ps u o = owns u o || granted ps u o.name some_right

-- as whom an id is known
unfoldable pub known : List User → Id → Option User
known us id = first (λ x. same_id x.id id) us

abbrev rank_found : Option User → Rank
rank_found None = basic_user
rank_found (Some x) = x.rank

unfoldable pub rank_of : List User → Id → Rank
rank_of us u = rank_found (known us u)

abbrev pub rank_named : Profile → Rank
rank_named ObjectOwner = object_owner
rank_named BasicUser = basic_user

-- DB_O creates users of the other profiles, DBOO only DBBU, and DBBU none
abbrev pub creates : Rank → Profile → Bool
creates database_owner p = true
creates object_owner ObjectOwner = false
creates object_owner BasicUser = true
creates basic_user p = false

-- DB_O and DBOO create tables
abbrev pub creates_tables : Rank → Bool
creates_tables database_owner = true
creates_tables object_owner = true
creates_tables basic_user = false

-- whom a text names in GRANT and REVOKE: an asterisk means all users
abbrev pub grantee_of : Bytes → Grantee
grantee_of text = cond (same text (42 ∷ [])) all_users (user text)

abbrev pub same_grantee : Grantee → Grantee → Bool
same_grantee all_users all_users = true
same_grantee all_users (user h) = false
same_grantee (user g) all_users = false
same_grantee (user g) (user h) = same_id g h

abbrev pub grantee_known : List User → Grantee → Bool
grantee_known us all_users = true
grantee_known us (user id) = is_some (known us id)
