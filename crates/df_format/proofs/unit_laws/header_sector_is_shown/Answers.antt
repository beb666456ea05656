use Rattle.df_format.proofs.Units.{sector_shown, header_shown, headers_fill}
use Rattle.df_format.proofs.unit_laws.header_sector_is_shown.Goals as goal

pub returns-clause-sector : goal.returns-clause-sector
returns-clause-sector c = sector_shown

pub returns-clause-header : goal.returns-clause-header
returns-clause-header c = header_shown

pub returns-clause-fits : goal.returns-clause-fits
returns-clause-fits c = headers_fill
