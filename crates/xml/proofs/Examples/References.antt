-- Worked examples of references and of attribute values, [66] [67] [68] [10]: first the texts that a production derives, then those that
-- it does not. Of the numbers some would be 65 if they were counted in 32 or 64 bits.
use mathlib.Core.Path.{◌≡◌, refl}
use mathlib.Core.Bool.{true}
use mathlib.Core.List.{[], ◌∷◌}
use Rattle.xml.specs.Productions.{CharRef, EntityRef, Reference, AttValue}
use Rattle.xml.specs.Judged.{judged, texts}

pub [66]-CharRef :
    judged CharRef
    (texts
    ("&#65;" ∷ "&#00065;" ∷ "&#x41;" ∷ "&#x0041;" ∷ "&#x3c;" ∷ "&#x3C;" ∷ "&#9;" ∷ "&#10;" ∷ "&#x9;" ∷ "&#xA;" ∷ "&#xa;" ∷ "&#xD;" ∷ "&#32;"
    ∷ "&#xD7FF;" ∷ "&#55295;" ∷ "&#xE000;" ∷ "&#xFFFD;" ∷ "&#x10000;" ∷ "&#x10FFFF;" ∷ "&#x10ffff;" ∷ "&#x0010fFfF;" ∷ "&#1114111;" ∷ []))
    (texts
    ("" ∷ "&#;" ∷ "&#x;" ∷ "&#X41;" ∷ "&#0;" ∷ "&#x0;" ∷ "&#8;" ∷ "&#xB;" ∷ "&#xC;" ∷ "&#xE;" ∷ "&#x1A;" ∷ "&#x1a;" ∷ "&#x1F;"
    ∷ "&#xD800;" ∷ "&#55296;" ∷ "&#xDFFF;" ∷ "&#xFFFE;" ∷ "&#xFFFF;" ∷ "&#x110000;" ∷ "&#1114112;" ∷ "&#4294967361;" ∷ "&#x100000041;"
    ∷ "&#18446744073709551681;" ∷ "&#65" ∷ "&#x41" ∷ "&#6A;" ∷ "&#/;" ∷ "&#:;" ∷ "&#x/;" ∷ "&#x:;" ∷ "&#x@;" ∷ "&#x4G;" ∷ "&#x`;" ∷ "&#x4g;"
    ∷ "&# 65;" ∷ "&#65 ;" ∷ "& #65;" ∷ "&#-1;" ∷ "&#+65;" ∷ "&#x 41;" ∷ "#65;" ∷ "&65;" ∷ "&#65;;" ∷ "&#0x41;" ∷ "&#\u{661};" ∷ "&amp;"
    ∷ []))
    ≡ true
unfolding judged
[66]-CharRef = refl

pub [68]-EntityRef :
    judged EntityRef
    (texts ("&amp;" ∷ "&lt;" ∷ "&gt;" ∷ "&apos;" ∷ "&quot;" ∷ []))
    (texts
    ("" ∷ "&" ∷ "&;" ∷ "&amp" ∷ "amp;" ∷ "&foo;" ∷ "&nbsp;" ∷ "&LT;" ∷ "&Amp;" ∷ "&am;" ∷ "&ampe;" ∷ "& lt;" ∷ "&lt ;" ∷ "&amp;amp;"
    ∷ "&lt;;" ∷ "&&lt;" ∷ "&1;" ∷ "&#65;" ∷ "%lt;" ∷ []))
    ≡ true
unfolding judged
[68]-EntityRef = refl

pub [67]-Reference :
    judged Reference
    (texts ("&amp;" ∷ "&quot;" ∷ "&#65;" ∷ "&#x41;" ∷ []))
    (texts ("" ∷ "&" ∷ "&;" ∷ "&foo;" ∷ "&#;" ∷ "&#xD800;" ∷ "&amp;&amp;" ∷ "a" ∷ []))
    ≡ true
unfolding judged
[67]-Reference = refl

pub [10]-AttValue :
    judged AttValue
    (texts
    ("''" ∷ "\"\"" ∷ "'\"'" ∷ "\"'\"" ∷ "'a'" ∷ "\"&lt;\"" ∷ "'&#60;'" ∷ "'a > b'" ∷ "'\n\t'" ∷ "']]>'" ∷ "'--'" ∷ "'&quot;é'" ∷ []))
    (texts
    ("" ∷ "'" ∷ "\"" ∷ "a" ∷ "1" ∷ "'a" ∷ "a'" ∷ "'a\"" ∷ "\"a'" ∷ "'''" ∷ "\"\"\"" ∷ "'<'" ∷ "\"<\"" ∷ "'&'" ∷ "\"&\"" ∷ "'& '" ∷ "'&foo;'"
    ∷ "'&lt'" ∷ "'&&lt;'" ∷ "'&#0;'" ∷ "'\u{1}'" ∷ "'\u{fffe}'" ∷ " 'a'" ∷ "'a' " ∷ "'a' 'b'" ∷ []))
    ≡ true
unfolding judged
[10]-AttValue = refl
