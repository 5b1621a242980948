-- What files and a sink that never fail tell: all, each name having a text.
use Rattle.std.specs.Prelude.{◌≡◌, List, [], Option, Some, unwrap_or}
use Rattle.symk_io.specs.View.{Bytes, FilesView, SinkView}
use Rattle.symk_io.specs.Memory.{text_in, shelf_left, names_of}
use Rattle.symk_io.specs.declared.mem_files.MemFile.{MemFile}
use Rattle.symk_io.specs.declared.no_fault.NoFaultFiles.{NoFaultFiles}
use Rattle.symk_io.specs.declared.no_fault.NoFaultSink.{NoFaultSink}

-- the text of a name, empty where it isn't there
abbrev pub any_text_in : List MemFile → Bytes → Option Bytes
any_text_in files name = Some (unwrap_or (text_in files name) [])

abbrev pub files_view : NoFaultFiles → FilesView
files_view m = record { told = Some (record { text = any_text_in m.shelf.files.items; left = shelf_left m.shelf; opened = names_of m.shelf }); faults = 0 }

abbrev pub sink_view : NoFaultSink → SinkView
sink_view m = record { taken = Some m.bytes.items; flushed = Some m.flushed; flushes = Some m.flushes; faults = 0 }

-- the texts of these files, nothing opened
abbrev pub StartsWith : List MemFile → FilesView → Type 0
StartsWith files view = view ≡ record { told = Some (record { text = any_text_in files; left = []; opened = [] }); faults = 0 }
