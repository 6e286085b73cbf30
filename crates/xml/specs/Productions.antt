-- The productions of XML 1.0 (Fifth Edition) that items are made of, each under its number and below its line in the Recommendation. They
-- stand in the Recommendation's order, but for what a production is made of, which has to stand before it: [66] [68] [67] before [10], [17]
-- before [16], [19]-[21] before [18], [25] [26] before [24], [81] [80] [32] before [23], [41] before [40].
-- A document has no document type: so "Entity Declared" leaves the five predefined names, and "No < in Attribute Values" holds by [10]
-- itself. Unique attribute names, matching tags and [1] [22] [39] [43] belong to the document as a whole: Document.antt.
use Rattle.std.specs.Prelude.{Bool, true, false, not, ◌&&◌, ◌||◌, List, [], ◌∷◌, ℕ, ◌+◌, ◌-◌, ◌*◌, eqb}
use Prim.Native.String.{String}
use Rattle.xml.specs.Range.{◌–◌, ◌to◌, only, sign, inside, within}
use Rattle.xml.specs.Notation.{Rule, char, ◌⨾◌, ◌∖◌, ◌∣◌, ◌∗, such, bytes, text, opt, plus, among}

-- [2] Char ::= #x9 | #xA | #xD | [#x20-#xD7FF] | [#xE000-#xFFFD] | [#x10000-#x10FFFF]
unfoldable pub is_char : ℕ → Bool
is_char = within (only 0x9 ∷ only 0xA ∷ only 0xD ∷ 0x20 – 0xD7FF ∷ 0xE000 – 0xFFFD ∷ 0x10000 – 0x10FFFF ∷ [])

abbrev pub Char : Rule
Char = char is_char

-- [3] S ::= (#x20 | #x9 | #xD | #xA)+
unfoldable pub is_space : ℕ → Bool
is_space = within (only 0x20 ∷ only 0x9 ∷ only 0xD ∷ only 0xA ∷ [])

abbrev pub S : Rule
S = plus (char is_space)

-- [4] NameStartChar ::= ":" | [A-Z] | "_" | [a-z] | [#xC0-#xD6] | [#xD8-#xF6] | [#xF8-#x2FF] | [#x370-#x37D] | [#x37F-#x1FFF]
--   | [#x200C-#x200D] | [#x2070-#x218F] | [#x2C00-#x2FEF] | [#x3001-#xD7FF] | [#xF900-#xFDCF] | [#xFDF0-#xFFFD] | [#x10000-#xEFFFF]
unfoldable pub is_name_start : ℕ → Bool
is_name_start =
    within
    (sign ":" ∷ "A" to "Z" ∷ sign "_" ∷ "a" to "z" ∷ 0xC0 – 0xD6 ∷ 0xD8 – 0xF6 ∷ 0xF8 – 0x2FF ∷ 0x370 – 0x37D ∷ 0x37F – 0x1FFF
    ∷ 0x200C – 0x200D ∷ 0x2070 – 0x218F ∷ 0x2C00 – 0x2FEF ∷ 0x3001 – 0xD7FF ∷ 0xF900 – 0xFDCF ∷ 0xFDF0 – 0xFFFD ∷ 0x10000 – 0xEFFFF ∷ [])

abbrev pub NameStartChar : Rule
NameStartChar = char is_name_start

-- [4a] NameChar ::= NameStartChar | "-" | "." | [0-9] | #xB7 | [#x0300-#x036F] | [#x203F-#x2040]
unfoldable pub is_name_more : ℕ → Bool
is_name_more = within (sign "-" ∷ sign "." ∷ "0" to "9" ∷ only 0xB7 ∷ 0x300 – 0x36F ∷ 0x203F – 0x2040 ∷ [])

unfoldable pub is_name : ℕ → Bool
is_name c = is_name_start c || is_name_more c

abbrev pub NameChar : Rule
NameChar = char is_name

-- [5] Name ::= NameStartChar (NameChar)*
abbrev pub Name : Rule
Name = NameStartChar ⨾ NameChar ∗

-- [^<&"]: any Char but these (section 6)
unfoldable pub except : String → ℕ → Bool
except xs c = is_char c && not (among (bytes xs) c)

-- [66] CharRef ::= '&#' [0-9]+ ';' | '&#x' [0-9a-fA-F]+ ';'
-- WFC Legal Character: the number is that of a Char. A digit's value, and the number that digits of a base make:
abbrev pub digit_by : Bool → Bool → ℕ → ℕ
digit_by true b x = x - 0x30
digit_by false true x = x - 0x61 + 10
digit_by false false x = x - 0x41 + 10

unfoldable pub digit_of : ℕ → ℕ
digit_of x = digit_by (inside ("0" to "9") x) (inside ("a" to "f") x) x

abbrev pub number : ℕ → ℕ → List ℕ → ℕ
number base n [] = n
number base n (x ∷ w) = number base (n * base + digit_of x) w

unfoldable pub legal : ℕ → List ℕ → Bool
legal base w = is_char (number base 0 w)

abbrev pub Decimal : Rule
Decimal = such (plus (char (within ("0" to "9" ∷ [])))) (legal 10)

abbrev pub Hexadecimal : Rule
Hexadecimal = such (plus (char (within ("0" to "9" ∷ "a" to "f" ∷ "A" to "F" ∷ [])))) (legal 16)

abbrev pub CharRef : Rule
CharRef = text "&#" ⨾ Decimal ⨾ text ";" ∣ text "&#x" ⨾ Hexadecimal ⨾ text ";"

-- [68] EntityRef ::= '&' Name ';'
-- WFC Entity Declared: without a document type, one of the five names of section 4.6
abbrev pub same : List ℕ → List ℕ → Bool
same [] [] = true
same [] (y ∷ v) = false
same (x ∷ w) [] = false
same (x ∷ w) (y ∷ v) = eqb x y && same w v

unfoldable pub declared : List ℕ → Bool
declared w = same w (bytes "amp") || same w (bytes "lt") || same w (bytes "gt") || same w (bytes "apos") || same w (bytes "quot")

abbrev pub EntityRef : Rule
EntityRef = text "&" ⨾ such Name declared ⨾ text ";"

-- [67] Reference ::= EntityRef | CharRef
abbrev pub Reference : Rule
Reference = EntityRef ∣ CharRef

-- [10] AttValue ::= '"' ([^<&"] | Reference)* '"' | "'" ([^<&'] | Reference)* "'"
abbrev pub AttValue : Rule
AttValue =
    text "\"" ⨾ (char (except "<&\"") ∣ Reference) ∗ ⨾ text "\""
    ∣ text "'" ⨾ (char (except "<&'") ∣ Reference) ∗ ⨾ text "'"

-- [14] CharData ::= [^<&]* - ([^<&]* ']]>' [^<&]*)
abbrev pub CharData : Rule
CharData = char (except "<&") ∗ ∖ (char (except "<&") ∗ ⨾ text "]]>" ⨾ char (except "<&") ∗)

-- [15] Comment ::= '<!--' ((Char - '-') | ('-' (Char - '-')))* '-->'
abbrev pub Comment : Rule
Comment = text "<!--" ⨾ ((Char ∖ text "-") ∣ (text "-" ⨾ (Char ∖ text "-"))) ∗ ⨾ text "-->"

-- [17] PITarget ::= Name - (('X' | 'x') ('M' | 'm') ('L' | 'l'))
abbrev pub PITarget : Rule
PITarget = Name ∖ ((text "X" ∣ text "x") ⨾ (text "M" ∣ text "m") ⨾ (text "L" ∣ text "l"))

-- [16] PI ::= '<?' PITarget (S (Char* - (Char* '?>' Char*)))? '?>'
abbrev pub PI : Rule
PI = text "<?" ⨾ PITarget ⨾ opt (S ⨾ (Char ∗ ∖ (Char ∗ ⨾ text "?>" ⨾ Char ∗))) ⨾ text "?>"

-- [19] CDStart ::= '<![CDATA['
abbrev pub CDStart : Rule
CDStart = text "<![CDATA["

-- [20] CData ::= (Char* - (Char* ']]>' Char*))
abbrev pub CData : Rule
CData = Char ∗ ∖ (Char ∗ ⨾ text "]]>" ⨾ Char ∗)

-- [21] CDEnd ::= ']]>'
abbrev pub CDEnd : Rule
CDEnd = text "]]>"

-- [18] CDSect ::= CDStart CData CDEnd
abbrev pub CDSect : Rule
CDSect = CDStart ⨾ CData ⨾ CDEnd

-- [25] Eq ::= S? '=' S?
abbrev pub Eq : Rule
Eq = opt S ⨾ text "=" ⨾ opt S

-- [26] VersionNum ::= '1.' [0-9]+
abbrev pub VersionNum : Rule
VersionNum = text "1." ⨾ plus (char (within ("0" to "9" ∷ [])))

-- [24] VersionInfo ::= S 'version' Eq ("'" VersionNum "'" | '"' VersionNum '"')
abbrev pub VersionInfo : Rule
VersionInfo = S ⨾ text "version" ⨾ Eq ⨾ (text "'" ⨾ VersionNum ⨾ text "'" ∣ text "\"" ⨾ VersionNum ⨾ text "\"")

-- [81] EncName ::= [A-Za-z] ([A-Za-z0-9._] | '-')*
abbrev pub EncName : Rule
EncName =
    char (within ("A" to "Z" ∷ "a" to "z" ∷ []))
    ⨾ (char (within ("A" to "Z" ∷ "a" to "z" ∷ "0" to "9" ∷ sign "." ∷ sign "_" ∷ [])) ∣ text "-") ∗

-- [80] EncodingDecl ::= S 'encoding' Eq ('"' EncName '"' | "'" EncName "'" )
abbrev pub EncodingDecl : Rule
EncodingDecl = S ⨾ text "encoding" ⨾ Eq ⨾ (text "\"" ⨾ EncName ⨾ text "\"" ∣ text "'" ⨾ EncName ⨾ text "'")

-- [32] SDDecl ::= S 'standalone' Eq (("'" ('yes' | 'no') "'") | ('"' ('yes' | 'no') '"'))
abbrev pub SDDecl : Rule
SDDecl =
    S ⨾ text "standalone" ⨾ Eq
    ⨾ (text "'" ⨾ (text "yes" ∣ text "no") ⨾ text "'" ∣ text "\"" ⨾ (text "yes" ∣ text "no") ⨾ text "\"")

-- [23] XMLDecl ::= '<?xml' VersionInfo EncodingDecl? SDDecl? S? '?>'
abbrev pub XMLDecl : Rule
XMLDecl = text "<?xml" ⨾ VersionInfo ⨾ opt EncodingDecl ⨾ opt SDDecl ⨾ opt S ⨾ text "?>"

-- [27] Misc ::= Comment | PI | S
abbrev pub Misc : Rule
Misc = Comment ∣ PI ∣ S

-- [41] Attribute ::= Name Eq AttValue
abbrev pub Attribute : Rule
Attribute = Name ⨾ Eq ⨾ AttValue

-- [40] STag ::= '<' Name (S Attribute)* S? '>'
abbrev pub STag : Rule
STag = text "<" ⨾ Name ⨾ (S ⨾ Attribute) ∗ ⨾ opt S ⨾ text ">"

-- [42] ETag ::= '</' Name S? '>'
abbrev pub ETag : Rule
ETag = text "</" ⨾ Name ⨾ opt S ⨾ text ">"

-- [44] EmptyElemTag ::= '<' Name (S Attribute)* S? '/>'
abbrev pub EmptyElemTag : Rule
EmptyElemTag = text "<" ⨾ Name ⨾ (S ⨾ Attribute) ∗ ⨾ opt S ⨾ text "/>"
