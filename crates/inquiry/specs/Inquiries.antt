-- What an inquiry of the code says.
use Rattle.inquiry.specs.Grammar.{Said}
use Rattle.inquiry.specs.ByteRows.{byte_row}
use Rattle.inquiry.specs.declared.inquiry.Inquiry.{Inquiry}

abbrev pub said : Inquiry → Said
said i = record { letters = i.letters; alphabet = i.alphabet; position = i.position; table = i.table.items; tape = i.tape.items }

-- the same, with table and tape as bytes
abbrev pub in_bytes : Said → Said
in_bytes p = record p { table = byte_row p.table; tape = byte_row p.tape }
