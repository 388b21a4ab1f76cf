-- The names that a command is computed by.
use Rattle.fields.specs.Reader.{param_at, count_at, identifier_at, byte_at, operator_at}
use Rattle.fields.specs.Entries.{name_at, rest_at, names, entries_at}
use Rattle.commands.specs.Parsers.{only_name, conditions_at, selection_at, limit_at, right_at, grantee_at, permission_at}
use Rattle.cardmodel.specs.Objects.{same, object_named, table_named, columns_in, selection_in, base, column_named, window, shows, shown_column, compared, passes, meets, rows_behind}
use Rattle.cardmodel.specs.Rights.{granted, may, reaches, known, rank_of}
use Rattle.cardmodel.specs.Storing.{makes_table, storable, appends, replaces, removes}
use Rattle.cardmodel.specs.CatalogueRules.{cursor_kept, creating_user, creating_table, creating_view, dropping_table, dropping_view, granting, revoking}
use Rattle.cardmodel.specs.CursorRules.{selected, next_selected, declaring, opening, nexting, fetched, fetching, fetching_next, clashes, inserting, updating, deleting}
use Rattle.cardmodel.specs.Answer.{presenting, verdict}

-- all that a command is computed by
unfoldable pub computed : Unit {0}
unfolding param_at count_at identifier_at byte_at operator_at name_at rest_at names entries_at only_name conditions_at selection_at limit_at right_at grantee_at permission_at same object_named table_named columns_in selection_in base column_named window shows shown_column compared passes meets rows_behind granted may reaches known rank_of makes_table storable appends replaces removes cursor_kept creating_user creating_table creating_view dropping_table dropping_view granting revoking selected next_selected declaring opening nexting fetched fetching fetching_next clashes inserting updating deleting presenting verdict
computed = tt
