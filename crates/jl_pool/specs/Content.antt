-- What follows the tag of an entry (JVMS 4.4).
use Rattle.std.specs.Prelude.{ℕ, List, [], ◌++◌, length}
use Rattle.jl_reading.specs.Reading.{two, four}
use Rattle.byteorder.specs.Endian.{big_bytes}
use Rattle.jl_names.specs.Text.{text_bytes}
use Rattle.jl_pool.specs.declared.entry.Entry.{Entry}
use Rattle.jl_pool.specs.declared.entry.Entry.TheVariants as entries

abbrev pub entry_content : Entry → List ℕ
entry_content entries.Unused = []
entry_content (entries.Utf8 units) = two (length (text_bytes units)) ++ text_bytes units
entry_content (entries.Integer n) = four n
entry_content (entries.Float n) = four n
entry_content (entries.Long n) = big_bytes 8 n
entry_content (entries.Double n) = big_bytes 8 n
entry_content (entries.Class i) = two i
entry_content (entries.String i) = two i
entry_content (entries.Field i j) = two i ++ two j
entry_content (entries.Method i j) = two i ++ two j
entry_content (entries.InterfaceMethod i j) = two i ++ two j
entry_content (entries.NameAndType i j) = two i ++ two j
entry_content (entries.MethodHandle kind i) = big_bytes 1 kind ++ two i
entry_content (entries.MethodType i) = two i
entry_content (entries.Dynamic b i) = two b ++ two i
entry_content (entries.InvokeDynamic b i) = two b ++ two i
entry_content (entries.Module i) = two i
entry_content (entries.Package i) = two i
